-- What only the proofs and the private contracts use.
pub mod Entries
