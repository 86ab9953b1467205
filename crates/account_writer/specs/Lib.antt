-- What the contract of the call for a code's account cites.
pub mod Account
pub mod Statements
