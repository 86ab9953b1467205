pub mod Record
pub mod Definitions
