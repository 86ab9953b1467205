pub mod Text
pub mod Reader
pub mod Writer
pub mod Edges
pub mod Starred
pub mod Definitions
pub mod Statements
