pub mod Rooms
pub mod Reading
pub mod Following
pub mod Writing
pub mod Blocks
pub mod Performing
pub mod Beginning
