pub mod Orderly
pub mod Made
pub mod OneFate
pub mod Published
pub mod Tries
pub mod Stages
pub mod Publications
pub mod Closing
