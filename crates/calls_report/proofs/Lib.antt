pub mod Passing
pub mod Loops
mod SureLemmas
mod SumLemmas
mod TotalLemmas
pub mod JudgingLemmas
pub mod JudgingChecks
