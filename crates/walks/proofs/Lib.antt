pub mod Joined
pub mod Pigeons
pub mod Loops
pub mod Greedy
pub mod Same
pub mod Unique
pub mod Bridge
pub mod Spreads
