pub mod Words
pub mod Lone
pub mod Statements
