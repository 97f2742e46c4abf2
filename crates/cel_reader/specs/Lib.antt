pub mod Lexed
pub mod Trees
pub mod Expressions
