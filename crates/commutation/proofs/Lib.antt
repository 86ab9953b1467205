pub mod AnyRow
pub mod Numbers
