pub mod Answers
pub mod Environment
pub mod Front
pub mod Last
pub mod Lines
pub mod Run
pub mod TypeText
pub mod ValueText
