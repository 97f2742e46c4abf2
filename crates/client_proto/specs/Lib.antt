pub mod ClientFile
pub mod ExpireTimes
pub mod Heads
pub mod Numbers
pub mod Replies
pub mod Requests
pub mod Subjects
pub mod Urls
