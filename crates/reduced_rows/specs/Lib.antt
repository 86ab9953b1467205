pub mod RowKinds
pub mod Rows
