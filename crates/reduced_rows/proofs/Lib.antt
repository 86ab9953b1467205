pub mod ArrayLength
pub mod Rows
pub mod RowKinds
