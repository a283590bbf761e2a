pub mod AnyTurns
pub mod CommandMet
pub mod Found
pub mod PlainLines
pub mod TurnsPass
pub mod TurnsRead
