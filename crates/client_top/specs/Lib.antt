pub mod Asks
pub mod Cuts
pub mod Jobs
pub mod Outcomes
pub mod Report
pub mod Runs
pub mod Words
