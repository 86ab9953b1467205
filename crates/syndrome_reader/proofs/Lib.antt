-- The laws that the proofs of the functions share, and what is stated of the reader.
pub mod ReadMask
pub mod Examples
