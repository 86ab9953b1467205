-- What the contracts of the corrections by value cite, and what is stated of them.
pub mod Corrections
pub mod Statements
