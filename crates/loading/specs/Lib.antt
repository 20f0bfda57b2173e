pub mod Copies
pub mod Loads
