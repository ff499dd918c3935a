-- Lemmas on how the load's script is read.
pub mod Acts
pub mod Opening
pub mod Whole
pub mod Short
