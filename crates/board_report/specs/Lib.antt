-- The bytes of reports and traces, what is written so far, and the lines of a report by what is told of a board.
pub mod Reports
pub mod Writing
pub mod Told
pub mod Tracing
