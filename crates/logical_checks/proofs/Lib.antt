pub mod Limits
pub mod Detected
pub mod Numbers
