pub mod Stages
pub mod Passing
