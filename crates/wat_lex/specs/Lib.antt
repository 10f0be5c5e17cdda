pub mod Classes
pub mod Sentences
pub mod Lexing
pub mod Answers
