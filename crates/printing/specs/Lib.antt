pub mod ActLines
pub mod Reads
pub mod Plays
pub mod Rows
pub mod Performs
pub mod Cards
pub mod Sides
