pub mod CommandLine
pub mod Turns
