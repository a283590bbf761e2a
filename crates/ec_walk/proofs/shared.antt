-- Lemmas that the proofs of other crates cite too.
pub mod Each
