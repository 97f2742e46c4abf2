pub mod Civil
pub mod Cuts
pub mod Forms
pub mod Spans
pub mod Splits
pub mod Joins
pub mod Parts
pub mod Read
