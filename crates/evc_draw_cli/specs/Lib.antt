pub mod CommandLine
pub mod Ranges
