pub mod AllowedRules
pub mod Back
pub mod Formed
pub mod Options
pub mod Readings
pub mod WrittenBoundaries
pub mod WrittenParts
