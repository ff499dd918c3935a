-- Tries on a board and its devices, one after another.
pub mod Asking
pub mod Fitting
pub mod Playing
pub mod Telling
pub mod Trying
pub mod Wanting
