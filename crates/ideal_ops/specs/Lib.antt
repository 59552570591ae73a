pub mod Limits
pub mod Eliminating
pub mod Blending
pub mod Calls
pub mod Membership
