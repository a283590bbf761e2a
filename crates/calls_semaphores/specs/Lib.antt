pub mod Banks
pub mod Faults
pub mod Outcomes
pub mod Laws
pub mod Monitors
pub mod kept
