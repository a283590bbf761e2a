pub mod Faults
pub mod Outcomes
pub mod Laws
pub mod kept
