pub mod Ancestors
pub mod Shown
