pub mod Uses
pub mod Laws
pub mod Headings
pub mod Passing
