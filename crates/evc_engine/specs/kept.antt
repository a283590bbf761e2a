pub mod Halts
pub mod LeftOut
pub mod Walks
