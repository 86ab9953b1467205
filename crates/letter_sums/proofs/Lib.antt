pub mod First
pub mod Steps
pub mod Masks
pub mod Words
pub mod Additive
pub mod Examples
