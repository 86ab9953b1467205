pub mod Sequence
pub mod CheckOrder
pub mod ReadChecks
pub mod Numbers
