-- What the contracts of the calls for the first lines of a code's report cite, and what is stated of them.
pub mod Header
pub mod Statements
