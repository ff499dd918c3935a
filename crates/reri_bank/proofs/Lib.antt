pub mod Claimed
pub mod Stands
pub mod Signalled
pub mod Placed
pub mod Fresh
pub mod Starting
mod WorkedBanks
