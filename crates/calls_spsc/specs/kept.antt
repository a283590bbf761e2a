-- How the code represents a buffer. Of this, public contracts use only `Watching`.
pub mod Orders
pub mod Watching
pub mod Moves
