pub mod AtBanks
pub mod AtHarts
pub mod AtReporters
pub mod Homeless
pub mod MadeOf
pub mod Quiet
pub mod Searching
pub mod Spanned
