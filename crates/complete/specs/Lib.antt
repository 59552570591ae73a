pub mod Limits
pub mod Table
pub mod Pairs
pub mod Raising
pub mod Completing
