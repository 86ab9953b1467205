pub mod Syndrome
pub mod Correction
pub mod Statements
pub mod EndToEnd
pub mod Definitions
