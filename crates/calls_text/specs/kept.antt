pub mod Adding
pub mod Runs
pub mod Judging
pub mod Results
pub mod Stages
pub mod Leading
pub mod Phrases
