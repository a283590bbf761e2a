pub mod Faults
pub mod Verdicts
pub mod Laws
pub mod Misuses
pub mod kept
