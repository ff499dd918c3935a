-- What a device still has to give, and the lists of the devices.
pub mod Acts
pub mod Left
pub mod Lists
pub mod Reported
