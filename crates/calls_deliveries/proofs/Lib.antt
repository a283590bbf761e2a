pub mod Standing
pub mod Runs
pub mod Seeing
pub mod Delivered
pub mod Known
mod Example
