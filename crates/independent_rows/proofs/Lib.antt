pub mod Placing
pub mod Added
