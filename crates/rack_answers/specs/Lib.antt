-- What the contracts of the answers as numbers cite, and what is stated of them.
pub mod Answers
pub mod Statements
