-- What the contract of the call for two numbers cites, and what is stated of it.
pub mod Numbers
pub mod Statements
