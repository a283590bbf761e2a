pub mod shared
pub mod NeverNegative
pub mod Moments
pub mod TicketOrder
pub mod Drawing
pub mod Counting
pub mod Latest
pub mod Written
