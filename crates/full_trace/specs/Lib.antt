pub mod Late
pub mod Rows
pub mod Tasks
pub mod Traced
