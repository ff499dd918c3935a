-- Lemmas on what is written, and on the lines of a report.
pub mod Growing
pub mod LineParts
pub mod LineTexts
pub mod OneMore
pub mod Shown
pub mod Tracing
pub mod Words
