pub mod Sheets
pub mod Orders
pub mod Cells
pub mod Steps
pub mod Phases
pub mod Promises
pub mod Events
