-- The laws that the proofs of the functions share, and what is stated of the call.
pub mod Header
pub mod HeaderCall
