pub mod Filling
pub mod Fitting
pub mod GeneratorWords
pub mod LetterBits
pub mod LoneLetters
pub mod Singles
pub mod Sums
pub mod Tables
