pub mod Made
pub mod Obstacles
pub mod Replays
pub mod kept
