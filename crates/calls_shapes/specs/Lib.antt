pub mod Bars
pub mod Steps
pub mod Tallies
pub mod Stairs
pub mod Evidence
