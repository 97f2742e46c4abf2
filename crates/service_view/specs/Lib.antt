pub mod Pools
pub mod View
pub mod Commands
pub mod Puts
