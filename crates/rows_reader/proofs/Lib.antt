pub mod RowsLeft
pub mod Gathers
pub mod Counted
pub mod Answered
