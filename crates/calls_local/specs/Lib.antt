pub mod Laws
pub mod Renamings
pub mod Databases
