-- When a run is safe.
pub mod Safe
