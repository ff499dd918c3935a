-- What more holds of events and their handlers in every run.
pub mod Depth
pub mod Pending
