-- Lemmas on the tables of a reader, on what the plan of a script always is, and on its canonical text.
pub mod Tables
pub mod Steps
pub mod Chains
pub mod Fits
pub mod Taken
pub mod Kept
pub mod Boards
pub mod Texts
pub mod Heads
pub mod WordsAgain
pub mod LinesAgain
pub mod BanksAgain
pub mod OpsAgain
pub mod SourcesAgain
pub mod Canonicals
