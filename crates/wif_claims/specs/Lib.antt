pub mod Forms
pub mod Payload
pub mod Timing
