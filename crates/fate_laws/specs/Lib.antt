-- How the numbers of errors by their fates add up.
pub mod Sums
