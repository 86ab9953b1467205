pub mod Answered
pub mod CheckOrder
pub mod Numbers
pub mod Passed
pub mod Steps
