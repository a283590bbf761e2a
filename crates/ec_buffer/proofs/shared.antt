-- Lemmas that the proofs of other crates cite too.
pub mod LeftOut
pub mod OneList
pub mod Staying
