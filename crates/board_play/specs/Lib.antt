-- What the run of a plan leaves of its board, and what the parts of the code say of it.
pub mod Played
pub mod Tried
