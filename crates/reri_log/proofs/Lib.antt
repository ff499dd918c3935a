pub mod Errors
pub mod Entered
pub mod Histories
pub mod Logging
pub mod Claims
pub mod Kept
pub mod Levels
