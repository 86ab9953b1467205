pub mod RowBits
pub mod InTurn
