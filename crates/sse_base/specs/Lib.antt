-- The event book, in reading order.
pub mod Ids
pub mod Arrows
pub mod Codes
pub mod Functions
pub mod Attributes
pub mod Events
pub mod Contexts
pub mod Words
pub mod Machine
pub mod Choice
pub mod Calls
pub mod Start
