pub mod Parts
pub mod Findings
pub mod Tests
