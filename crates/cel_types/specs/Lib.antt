pub mod Types
pub mod Rows
pub mod Rules
pub mod Typing
pub mod Scopes
pub mod Nodes
