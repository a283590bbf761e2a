pub mod Spsc
pub mod Loads
pub mod Watches
pub mod Laws
pub mod kept
