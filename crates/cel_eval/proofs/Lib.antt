pub mod Decided
pub mod Folded
pub mod FreeNames
pub mod Layers
pub mod Lookups
