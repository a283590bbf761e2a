pub mod Cells
pub mod Outcomes
pub mod Laws
pub mod kept
