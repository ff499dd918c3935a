-- Raised events are no errors.
pub mod Raises
