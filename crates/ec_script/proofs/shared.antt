-- Lemmas that the proofs of other crates cite too.
pub mod Texts
pub mod WrittenOut
pub mod Keeping
