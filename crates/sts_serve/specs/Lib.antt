pub mod Answered
pub mod Cut
pub mod Found
pub mod Frames
pub mod Histories
pub mod Left
pub mod Served
