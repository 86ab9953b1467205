pub mod Claim
pub mod Statements
