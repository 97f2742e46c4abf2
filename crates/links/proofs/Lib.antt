pub mod ByLists
pub mod Chains
pub mod Good
pub mod GoodLinks
pub mod Held
pub mod HopPlaces
pub mod Issuing
pub mod Journals
pub mod Names
pub mod Numbers
pub mod Places
mod Preparing
pub mod Replays
pub mod Sound
pub mod SourceForms
