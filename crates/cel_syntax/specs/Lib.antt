pub mod Macros
pub mod MacroFaults
pub mod Parse
pub mod Print
pub mod Parentheses
