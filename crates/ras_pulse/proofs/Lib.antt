-- Lists that take turns, and the pulses before an overflow.
pub mod Turns
