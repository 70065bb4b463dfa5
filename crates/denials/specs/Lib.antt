pub mod Answers
pub mod Denials
