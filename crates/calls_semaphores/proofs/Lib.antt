pub mod Runs
pub mod Necessity
pub mod Counts
pub mod Steps
pub mod Deciding
pub mod Scanning
pub mod Monitoring
pub mod Finding
