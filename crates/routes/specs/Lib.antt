pub mod Ways
pub mod Routes
pub mod Solutions
pub mod Theorems
