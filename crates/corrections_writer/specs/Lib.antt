-- What the contract of the call for a report's corrections cites.
pub mod Corrections
