-- What the contract of the call for one correction cites.
pub mod Lines
