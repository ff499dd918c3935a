pub mod Held
pub mod Errors
pub mod Phased
pub mod Meaning
pub mod Beginning
