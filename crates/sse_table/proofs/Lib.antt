-- What the start of a board keeps, what places hold, and what checked writes hold.
pub mod Orders
pub mod Slots
pub mod Bits
pub mod Checks
pub mod Hints
pub mod Ranges
