pub mod Answers
pub mod Bindings
pub mod Commands
pub mod Mappings
pub mod Members
pub mod Names
pub mod Providers
