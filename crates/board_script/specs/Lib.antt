-- What the reader's own parts answer, against the board book.
pub mod Reading
pub mod Again
