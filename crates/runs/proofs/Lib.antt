pub mod Whys
pub mod Puts
pub mod Rivals
pub mod Runs
pub mod One
