pub mod Ranks
pub mod Limiting
pub mod Queueing
pub mod Lateness
pub mod Deciding
pub mod Capping
