pub mod Cuts
pub mod Counted
mod Fronts
pub mod Kept
pub mod Replying
pub mod Runs
mod Stages
mod Words
