pub mod Registers
pub mod Accesses
pub mod Layout
