pub mod RowBits
