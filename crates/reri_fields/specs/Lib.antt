pub mod Fields
pub mod Records
pub mod Outcome
pub mod Banks
pub mod Words
pub mod Drain
pub mod Block
