-- What the contracts of the calls for a report's corrections cite, and what is stated of the lines.
pub mod CorrectionLines
pub mod Statements
