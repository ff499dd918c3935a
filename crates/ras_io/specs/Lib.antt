pub mod Causes
pub mod Memory
pub mod Std
pub mod Whole
