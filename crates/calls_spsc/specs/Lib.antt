pub mod Flows
pub mod Laws
pub mod Monitors
pub mod kept
