pub mod Asking
pub mod ByWorker
pub mod Joining
pub mod Leasing
pub mod Loops
pub mod Outcomes
pub mod Reporting
pub mod Running
