pub mod Stages
pub mod Floors
pub mod Turns
pub mod Nets
