-- What only the proofs need.
pub mod Going
pub mod Ends
