pub mod Equality
pub mod Opacity
pub mod Values
pub mod Weight
