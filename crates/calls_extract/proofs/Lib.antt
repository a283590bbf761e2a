pub mod Events
pub mod Ends
