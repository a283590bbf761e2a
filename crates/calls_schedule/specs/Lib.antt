pub mod Schedules
pub mod Outcomes
pub mod Laws
pub mod Limits
pub mod Serving
pub mod Missing
pub mod Caps
