pub mod Denotation
pub mod Errors
pub mod FreeNames
pub mod Laws
pub mod Scopes
