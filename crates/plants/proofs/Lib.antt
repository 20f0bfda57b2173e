pub mod Order
pub mod Joins
pub mod Blocks
pub mod Galois
pub mod Pairs
