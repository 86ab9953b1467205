-- The laws that the proofs of the functions share, and what is stated of the calls.
pub mod Lines
pub mod LineCalls
