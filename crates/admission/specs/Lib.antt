pub mod Logicals
pub mod Distance
pub mod Admission
pub mod Definitions
pub mod Statements
