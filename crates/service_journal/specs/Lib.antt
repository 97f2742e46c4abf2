pub mod Journals
pub mod Opening
pub mod Replays
