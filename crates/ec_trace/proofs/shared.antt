-- Lemmas that the proofs of other crates cite too.
pub mod ReadTraces
pub mod UpgradedTraces
pub mod LineParts
pub mod KnownInputs
