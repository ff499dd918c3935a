-- What the registers do, and how registers and kept values are a hart's contexts.
pub mod Registers
pub mod Levels
pub mod Running
