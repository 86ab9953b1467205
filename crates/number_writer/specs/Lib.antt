-- What the contract of the call for one number cites, and what is stated of it.
pub mod Lines
pub mod Statements
