-- Lemmas that the proofs of other crates cite too.
pub mod OwnCalls
pub mod OwnSteps
pub mod WholeLists
