pub mod BitVec
pub mod Numbered
