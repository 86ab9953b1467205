pub mod Masks
pub mod Product
pub mod Syndrome
pub mod Letters
pub mod Order
pub mod Definitions
pub mod Statements
