pub mod Rows
pub mod Impulses
