pub mod Words
pub mod Lexing
pub mod FirstWord
pub mod Spelling
pub mod QuotedText
