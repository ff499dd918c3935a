-- A bank of a board, and the states that it stands for.
pub mod Standing
pub mod Inside
