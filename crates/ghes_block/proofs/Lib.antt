pub mod Digits
pub mod StatusBits
pub mod Entries
pub mod Registers
pub mod Text
