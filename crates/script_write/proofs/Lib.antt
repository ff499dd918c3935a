-- Lemmas on the lines of a canonical text.
pub mod Further
pub mod Gathers
pub mod Progress
pub mod Wholes
