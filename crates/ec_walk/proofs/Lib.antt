pub mod shared
pub mod WalkLemmas
