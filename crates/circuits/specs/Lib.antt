pub mod Grids
pub mod Checks
pub mod Faults
