-- Why every run is safe: by what the laws promise.
pub mod Safe
