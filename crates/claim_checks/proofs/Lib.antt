pub mod ClaimFaults
pub mod Theorems
