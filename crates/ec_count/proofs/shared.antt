-- Lemmas that the proofs of other crates cite too.
pub mod Adding
pub mod Declared
pub mod Disjoint
pub mod Distinct
pub mod Keeping
pub mod Named
pub mod Quiet
