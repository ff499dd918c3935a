-- The first unmasked hart, queues as instances come and go, and what is chosen.
pub mod First
pub mod Swaps
pub mod Entries
pub mod Fits
pub mod Waits
pub mod Changes
pub mod Chosen
pub mod Tables
