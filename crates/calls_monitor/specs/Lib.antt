pub mod Watched
pub mod Refusals
pub mod kept
pub mod Monitors
