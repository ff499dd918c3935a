-- What is kept for each hart, and how it changes.
pub mod Lines
pub mod Steps
pub mod Picked
