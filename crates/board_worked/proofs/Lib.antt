-- Worked runs of whole boards, computed from the definitions of the board book: one file a subject.
pub mod Boards
mod FirstEvent
mod Torn
mod LateError
mod Gathered
mod Nested
mod FollowsMasks
mod Oneshot
mod UserMode
mod Strays
