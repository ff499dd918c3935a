-- What the writer's own parts write, against the board book.
pub mod Statements
