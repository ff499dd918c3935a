-- A queue in order of urgency, and the places in it.
pub mod Order
pub mod Places
