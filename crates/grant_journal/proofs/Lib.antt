pub mod Crash
mod Emptying
pub mod Finding
mod Looking
pub mod Stages
pub mod Stands
pub mod Unique
pub mod Wholes
