pub mod Lengths
pub mod Leaves
pub mod Guarantee
