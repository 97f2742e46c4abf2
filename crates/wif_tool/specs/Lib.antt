pub mod Command
pub mod Connection
pub mod Emptied
pub mod Lines
pub mod Listening
pub mod Opened
pub mod Status
pub mod Work
