-- Workers, and the tries that they make.
pub mod Agreeing
pub mod Ends
pub mod Given
pub mod Hires
pub mod Idling
pub mod Moving
pub mod Noting
pub mod Rounding
pub mod Shelves
pub mod Staying
pub mod Trying
pub mod Turning
