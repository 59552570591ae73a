pub mod Limits
pub mod Errors
pub mod Outcomes
pub mod Cutting
pub mod Current
pub mod Division
