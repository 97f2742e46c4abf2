pub mod Leasing
pub mod Newest
pub mod Pieces
pub mod Stepping
pub mod Telling
