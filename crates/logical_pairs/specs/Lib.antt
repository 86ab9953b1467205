pub mod FaultAt
pub mod FirstPlace
pub mod Statements
