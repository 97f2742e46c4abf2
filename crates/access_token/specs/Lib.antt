pub mod Active
pub mod Exact
pub mod Facts
pub mod Forms
pub mod Parts
pub mod Payload
pub mod Reading
