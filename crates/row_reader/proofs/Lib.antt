pub mod Answers
pub mod LetterLines
