mod Copied
mod Passed
pub mod Puts
