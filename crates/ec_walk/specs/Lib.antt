pub mod Walks
pub mod kept
