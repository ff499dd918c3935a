pub mod Places
pub mod Setters
pub mod Copies
pub mod Written
pub mod Fresh
mod Rows
mod WorkedRecords
mod Blocks
mod WorkedDrains
