pub mod Failing
pub mod Sent
pub mod Heads
pub mod Passing
pub mod Serving
pub mod Stepping
pub mod Sums
