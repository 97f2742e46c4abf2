pub mod Carried
pub mod Decision
