pub mod Compact
pub mod Hmac
pub mod Verified
