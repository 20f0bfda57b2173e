pub mod Verdicts
pub mod Readings
