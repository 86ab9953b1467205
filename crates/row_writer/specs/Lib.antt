-- What the contracts of the calls for one row cite, and what is stated of them.
pub mod Lines
pub mod Statements
