pub mod FormChecked
pub mod WithinLimits
