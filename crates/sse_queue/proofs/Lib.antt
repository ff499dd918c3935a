-- Which event is more urgent, places in a queue, and its order through a change.
pub mod Before
pub mod Places
pub mod InOrder
pub mod Ends
