pub mod AtOnce
pub mod RowSums
pub mod LettersLeft
pub mod LogicalErrors
