pub mod PlainLines
mod Found
