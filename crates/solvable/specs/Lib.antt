pub mod Tables
pub mod Walking
pub mod Ready
pub mod Refusal
pub mod Terms
