pub mod shared
pub mod SameLines
pub mod OneRun
pub mod OneNote
pub mod OutcomeLines
pub mod Ends
pub mod SameReports
pub mod PlainActs
