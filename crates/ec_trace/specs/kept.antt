pub mod LineCache
pub mod PackedBytes
pub mod WordTables
