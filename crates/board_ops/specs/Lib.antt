-- What an op of a hart's own does, and which op stands at an address.
pub mod Executed
pub mod Indexes
pub mod Own
pub mod Placing
