-- The laws that the proofs of the functions share.
pub mod SyndromeText
