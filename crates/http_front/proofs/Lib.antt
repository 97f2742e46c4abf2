pub mod FieldLists
pub mod Halves
pub mod HeadTexts
mod Judging
pub mod OneReading
pub mod OneStream
pub mod Takings
mod Visibles
