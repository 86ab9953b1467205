-- The laws that the proofs of the functions share, what is stated of the readers, and examples.
pub mod Lines
pub mod InReports
pub mod Examples
