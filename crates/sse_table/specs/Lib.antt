-- What the code of the table does, and what callers keep of an instance that they looked up.
pub mod Start
pub mod Bits
pub mod Places
pub mod Found
pub mod Ranges
