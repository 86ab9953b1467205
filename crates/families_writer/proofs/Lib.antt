-- The laws that the proofs of the functions share, and what is stated of the call.
pub mod Families
pub mod FamiliesCall
