pub mod WellTyped
