pub mod Grammar
pub mod Machine
pub mod Faults
pub mod Walk
pub mod Places
pub mod Due
pub mod Ready
pub mod Answer
