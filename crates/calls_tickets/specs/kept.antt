-- How the code represents tickets. Of this, public contracts use only `Watching`.
pub mod Tables
pub mod Watching
pub mod Recording
