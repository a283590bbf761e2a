pub mod Begun
pub mod Objects
pub mod Entries
pub mod Judging
pub mod Wholes
