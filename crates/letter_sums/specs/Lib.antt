pub mod Sums
pub mod Definitions
