pub mod Rows
pub mod Walks
pub mod Classing
pub mod Using
