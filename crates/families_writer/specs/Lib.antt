-- What the contract of the call for the families cites, and what is stated of it.
pub mod Families
pub mod Statements
