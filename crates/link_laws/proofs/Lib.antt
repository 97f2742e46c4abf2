pub mod Counted
pub mod Granted
pub mod LinkLaws
