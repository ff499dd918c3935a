-- Lemmas on the words of a line.
pub mod Spaces
