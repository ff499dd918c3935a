pub mod Levels
pub mod Indexing
pub mod Passing
