pub mod Words
pub mod Spelling
pub mod Puts
pub mod Inputs
