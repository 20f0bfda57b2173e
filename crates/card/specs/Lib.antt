pub mod Cells
pub mod Responses
pub mod Reports
