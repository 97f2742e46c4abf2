pub mod KeptJournals
mod Reading
pub mod Refusals
pub mod Texts
