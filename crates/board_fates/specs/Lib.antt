-- What a tally of fates is, and what notes add to it.
pub mod Counted
pub mod Tallied
