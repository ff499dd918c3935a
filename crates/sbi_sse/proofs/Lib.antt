-- Why the firmware's parts keep together what they keep.
pub mod Places
pub mod Counting
pub mod Keeps
pub mod Chosen
pub mod Fresh
pub mod Injects
pub mod Gathered
pub mod Queues
pub mod Interrupted
pub mod Begins
pub mod Taken
