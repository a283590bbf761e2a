pub mod shared
pub mod Silences
pub mod Receivers
pub mod ReplyKinds
pub mod CallsCut
pub mod FallenShort
pub mod Keeping
