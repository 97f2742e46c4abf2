pub mod Answers
pub mod Emptying
pub mod JournalBytes
pub mod Journals
pub mod Places
pub mod Reading
pub mod Whole
