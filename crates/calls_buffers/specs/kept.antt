-- What only the code's own representation needs.
pub mod Items
pub mod Orders
pub mod Accesses
pub mod InTurn
pub mod Windows
pub mod Spans
pub mod Settling
pub mod Plans
pub mod Pairs
pub mod Jobs
pub mod Ranks
pub mod Decisions
pub mod Takings
pub mod Puttings
