-- The laws that the proof of the function cites, and its callers.
pub mod Filled
