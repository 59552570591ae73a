pub mod Rows
pub mod View
pub mod Parts
pub mod Found
