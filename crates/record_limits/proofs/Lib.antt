pub mod RowLimits
pub mod GeneratorLimits
