-- What the view of a hart keeps.
pub mod Frames
pub mod Places
