pub mod shared
pub mod AddedWords
pub mod Blocks
pub mod Bytes
pub mod ReadLines
pub mod SpelledLines
pub mod Stops
pub mod WorkersLine
