-- What a move to version 2 keeps.
pub mod Moves
