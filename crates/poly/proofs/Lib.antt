pub mod Kept
mod Parted
mod Peeked
pub mod Steps
mod Merging
pub mod Raising
mod Shifting
mod Halves
mod TermWeights
mod Single
mod Distinct
pub mod Products
mod Places
mod GridHolds
mod GridRows
mod GridSteps
mod EqualityLaws
mod Greatest
pub mod IsLaws
pub mod Standing
mod Evaluating
mod Composing
mod Cleared
pub mod Multiples
mod Retelling
mod Blends
