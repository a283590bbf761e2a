pub mod shared
pub mod AppendLemmas
pub mod LineCuts
mod InputLemmas
mod EndLemmas
