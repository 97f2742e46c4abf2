pub mod Asked
pub mod Connection
pub mod Listening
pub mod Refusing
