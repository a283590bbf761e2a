pub mod Trying
pub mod Staying
pub mod Searching
pub mod Classes
pub mod Faults
