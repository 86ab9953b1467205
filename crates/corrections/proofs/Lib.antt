pub mod ByValue
pub mod Light
pub mod Examples
