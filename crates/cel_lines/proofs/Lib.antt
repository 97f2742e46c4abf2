pub mod Entries
mod Faults
pub mod Lines
mod Runs
