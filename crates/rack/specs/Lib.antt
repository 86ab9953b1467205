-- What the contracts of the calls for C cite, and what is stated of them.
pub mod Calls
pub mod Statements
