pub mod Lines
pub mod Causes
pub mod Extracts
pub mod kept
