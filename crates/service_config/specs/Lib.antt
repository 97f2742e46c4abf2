pub mod Configuration
pub mod Formed
