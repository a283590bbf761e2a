pub mod Answers
pub mod Monitors
pub mod Places
pub mod Rooms
pub mod Versions
