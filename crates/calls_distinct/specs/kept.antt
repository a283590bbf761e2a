pub mod Groups
pub mod Nowhere
pub mod Records
pub mod Verdicts
pub mod Zones
