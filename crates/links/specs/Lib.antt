pub mod Tallies
pub mod Takes
