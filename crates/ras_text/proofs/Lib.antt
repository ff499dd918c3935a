pub mod Again
mod Glyphs
pub mod Joined
mod Rows
mod Splits
mod Values
