-- What is so of instances, and worked examples of the event book: each is computed from its definitions.
pub mod Instances
pub mod Played
mod WorkedCalls
mod WorkedContexts
mod WorkedChoice
