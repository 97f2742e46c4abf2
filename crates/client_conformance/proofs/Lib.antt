pub mod Bodies
pub mod Files
pub mod Heads
pub mod Parameters
pub mod Texts
pub mod Visibles
