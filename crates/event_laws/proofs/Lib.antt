-- What a step can do to the machine, and what holds in every run.
pub mod Calls
pub mod Outcomes
pub mod Runs
pub mod Choosing
pub mod Rising
pub mod Changes
pub mod Standing
pub mod Beginning
pub mod Prompt
pub mod Following
pub mod Framing
pub mod Lasting
pub mod Depths
pub mod Marks
