pub mod shared
pub mod FirstCalls
pub mod Frames
pub mod Going
pub mod Joined
