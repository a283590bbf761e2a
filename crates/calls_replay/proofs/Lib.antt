pub mod Going
pub mod Rows
pub mod Firsts
pub mod Steps
pub mod Traces
pub mod Ends
