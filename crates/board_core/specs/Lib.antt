-- A board as what was played on it.
pub mod Inside
pub mod Noting
pub mod OwnActs
pub mod Played
pub mod Reached
pub mod Rooms
pub mod Watched
