pub mod Texts
pub mod Watching
pub mod Endings
