pub mod Pairwise
pub mod Weights
