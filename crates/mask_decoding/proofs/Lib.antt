pub mod Masks
pub mod Corrected
pub mod Numbers
pub mod Examples
