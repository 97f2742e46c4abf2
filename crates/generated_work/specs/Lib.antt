pub mod Draws
pub mod Requests
pub mod Run
pub mod Setting
pub mod Told
