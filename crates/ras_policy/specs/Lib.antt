-- Which pages to retire, what a ledger is, and how the code groups marks.
pub mod Retired
pub mod Books
pub mod Grouped
