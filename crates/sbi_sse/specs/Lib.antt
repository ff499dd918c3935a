-- What the firmware keeps at all times, what its calls answer, and what becomes of it while its memory is lent.
pub mod Kept
pub mod Elsewhere
pub mod Answered
pub mod Lending
