-- What a worker has at hand, what its tries make of a board, and what a list of tries makes of one.
pub mod Hand
pub mod Hiring
pub mod Replaying
pub mod Trying
pub mod Views
pub mod Workers
