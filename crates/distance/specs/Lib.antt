pub mod Search
pub mod Statements
