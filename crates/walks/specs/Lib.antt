pub mod Folds
pub mod Circuits
pub mod Walks
pub mod Searches
