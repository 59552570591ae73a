pub mod Weights
pub mod Lists
pub mod Clearing
pub mod Echelon
pub mod Kernels
pub mod Kept
