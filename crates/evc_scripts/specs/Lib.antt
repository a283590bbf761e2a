pub mod OutcomeNotes
pub mod Sims
pub mod SimLaws
pub mod Runs
pub mod Tasks
pub mod RunLaws
