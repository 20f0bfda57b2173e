pub mod Places
pub mod Duly
pub mod Lawful
pub mod Played
pub mod Following
pub mod Kept
pub mod Made
