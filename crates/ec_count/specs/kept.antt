pub mod Same
pub mod SymbolTable
pub mod Rows
