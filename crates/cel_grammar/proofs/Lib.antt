pub mod Stack
pub mod Taken
pub mod Read
pub mod Completed
pub mod Signs
pub mod Walked
pub mod Pushed
pub mod Kept
pub mod Placed
mod Broken
