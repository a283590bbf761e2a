mod Columns
mod Whole
