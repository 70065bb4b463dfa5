pub mod Answers
pub mod Laws
pub mod Meanings
pub mod Places
