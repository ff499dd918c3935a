-- The board book, in reading order: scripts and the text of notes, a board's state, its steps and runs, fates and
-- reports, and what is safe in every run.
pub mod Words
pub mod OpForms
pub mod Script
pub mod Notes
pub mod Canonical
pub mod Plans
pub mod State
pub mod Ops
pub mod Step
pub mod Run
pub mod Fates
pub mod Text
pub mod Sound
pub mod Amend
pub mod Blocks
pub mod Laws
