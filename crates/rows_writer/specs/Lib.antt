-- What the contract of the call for several rows cites, and what is stated of it.
pub mod Rows
pub mod Statements
