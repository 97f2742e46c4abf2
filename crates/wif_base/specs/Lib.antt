pub mod Carried
pub mod Causes
pub mod Counts
pub mod Disk
pub mod Output
pub mod Replay
pub mod Routes
pub mod Whole
