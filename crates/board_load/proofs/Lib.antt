-- Lemmas on the lines of the load.
pub mod Lines
