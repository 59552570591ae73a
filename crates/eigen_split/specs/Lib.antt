pub mod Fitting
pub mod Ints
pub mod WholeMultiple
pub mod Search
pub mod Refusal
pub mod Parts
pub mod Residues
