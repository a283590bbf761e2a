pub mod Findings
pub mod LeftOut
