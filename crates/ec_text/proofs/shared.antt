-- Lemmas that the proofs of other crates cite too.
pub mod DecimalLemmas
pub mod NumberLemmas
pub mod PutLemmas
pub mod WordLemmas
