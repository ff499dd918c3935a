-- What the top call promises, and what its own parts say.
pub mod Commands
pub mod Retired
pub mod Play
pub mod Parts
pub mod Run
