pub mod Values
pub mod LineValues
