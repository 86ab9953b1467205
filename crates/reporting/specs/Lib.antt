pub mod Report
pub mod Definitions
pub mod Statements
