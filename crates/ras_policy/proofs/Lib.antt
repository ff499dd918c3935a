pub mod Rising
pub mod Groups
pub mod Stepping
pub mod Listed
pub mod Standing
pub mod Laws
