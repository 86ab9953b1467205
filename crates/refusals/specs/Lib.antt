pub mod Families
pub mod Refusals
pub mod Definitions
