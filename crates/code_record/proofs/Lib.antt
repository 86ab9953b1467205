pub mod Examples
pub mod Limits
pub mod Filled
pub mod Tests
pub mod ArrayLengths
