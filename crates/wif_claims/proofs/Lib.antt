pub mod ActorLists
pub mod HeldForms
pub mod Payloads
pub mod FormedClaims
