pub mod Fits
pub mod Meaning
pub mod Horizons
pub mod Calls
pub mod Theorems
