pub mod Providers
pub mod Environments
pub mod Answers
pub mod Mapped
pub mod Lengths
pub mod Admission
pub mod Admitted
