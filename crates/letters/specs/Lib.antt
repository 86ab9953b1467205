pub mod Lists
pub mod Letters
pub mod Options
pub mod Definitions
