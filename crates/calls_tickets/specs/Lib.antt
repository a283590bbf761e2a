pub mod Faults
pub mod Laws
pub mod Outcomes
pub mod Monitors
pub mod kept
