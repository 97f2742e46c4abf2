pub mod Numbers
pub mod Fronts
pub mod Ascii
pub mod Longest
pub mod Lexed
mod Lossy
pub mod Spelled
pub mod Formed
pub mod Escapes
mod Pieces
mod TextForms
pub mod Spellable
