pub mod CountedMembers
pub mod FormedCommands
pub mod FormedMappings
pub mod ListedBindings
