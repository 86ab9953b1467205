-- The laws that the proofs of the functions share, and what is stated of the lines.
pub mod Lines
pub mod Fits
pub mod InReports
