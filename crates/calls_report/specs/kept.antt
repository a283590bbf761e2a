pub mod Speakers
pub mod Sums
pub mod Sure
pub mod Judging
