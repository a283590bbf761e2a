-- Lemmas that the proofs of other crates cite too.
pub mod Staying
pub mod Implying
pub mod Lines
pub mod LeftOut
pub mod Smallness
