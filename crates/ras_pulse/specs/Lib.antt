-- The lists of the devices, and what is left of them.
pub mod Left
pub mod Lists
pub mod Reported
