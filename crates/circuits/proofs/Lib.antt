pub mod Spots
pub mod Tables
pub mod Steps
pub mod Verdicts
pub mod Pinned
pub mod Lines
