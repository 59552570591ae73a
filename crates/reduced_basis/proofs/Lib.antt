pub mod Divisors
pub mod Removed
pub mod Behind
pub mod Ordered
pub mod Turning
pub mod Along
pub mod Finished
