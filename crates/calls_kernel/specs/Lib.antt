pub mod Outside
pub mod Made
pub mod Recorded
pub mod Laws
