-- What the contract of the call for a refusal cites, and what is stated of it.
pub mod RefusalLines
pub mod Statements
