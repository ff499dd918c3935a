-- Lemmas on what is written.
pub mod Copies
pub mod Given
pub mod Joined
pub mod Listing
pub mod Loads
pub mod Moved
pub mod Written
pub mod Finished
