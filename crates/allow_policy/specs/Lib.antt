pub mod Conditions
pub mod Granting
pub mod Lists
pub mod Puts
