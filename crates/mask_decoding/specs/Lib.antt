-- What the contract of the decode call by value cites, and what is stated of it.
pub mod Masks
pub mod Statements
