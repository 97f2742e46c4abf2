pub mod Accepted
pub mod Bytes
pub mod FirstFaults
pub mod Issued
pub mod Lengths
pub mod Sameness
pub mod Splitting
