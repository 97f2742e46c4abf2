pub mod Attributes
pub mod Targets
