-- What the code of the block does, and what a slot keeps.
pub mod Sections
pub mod Held
