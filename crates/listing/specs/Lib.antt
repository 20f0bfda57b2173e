pub mod FaultRows
pub mod CardLines
pub mod BlockLines
