pub mod Counting
pub mod Lists
pub mod Filters
pub mod Positions
pub mod Drawing
pub mod Settling
pub mod Beginnings
mod Placing
pub mod Finding
pub mod Ranges
pub mod Merges
mod Stable
mod Packing
