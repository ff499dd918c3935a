-- The parts of a board, and the states that they are of.
pub mod Came
pub mod Homes
pub mod Quiet
pub mod Shows
pub mod Walked
