pub mod Plans
pub mod Refusals
pub mod History
pub mod Performed
pub mod Theorems
pub mod Told
