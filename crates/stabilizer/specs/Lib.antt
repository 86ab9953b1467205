pub mod Group
pub mod Checks
pub mod Canonical
pub mod Definitions
pub mod Statements
