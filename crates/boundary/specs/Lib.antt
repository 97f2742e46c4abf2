pub mod Allowed
pub mod Allowing
pub mod Answers
pub mod Boundaries
pub mod Exact
pub mod Written
