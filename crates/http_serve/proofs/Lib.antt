mod Counted
pub mod Kept
mod Replying
pub mod Requests
pub mod Runs
mod Steps
pub mod Visiting
