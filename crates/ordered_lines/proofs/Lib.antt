pub mod Reached
pub mod Sheets
