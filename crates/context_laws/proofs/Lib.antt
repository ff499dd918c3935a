-- Why a completion restores what the notes tell.
pub mod Depths
pub mod Amending
pub mod Ops
pub mod Writing
pub mod Memory
pub mod Turns
pub mod Told
pub mod Following
pub mod WorkedPlans
mod WorkedNesting
mod WorkedReturn
