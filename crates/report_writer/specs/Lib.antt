-- What the contracts of the report's functions cite.
pub mod Reports
