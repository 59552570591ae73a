pub mod Combinations
pub mod WeightCombination
pub mod Combining
pub mod Below
pub mod Sames
pub mod Raised
pub mod Leading
pub mod Represented
pub mod Agreeing
pub mod Places
pub mod Monic
pub mod UnitProducts
pub mod LessValue
pub mod LoopsStarts
pub mod StartSteps
pub mod TwoTerms
pub mod Elements
mod Variables
mod Copies
mod Differences
mod Passers
mod OneIterationBack
mod Placing
mod LateLists
mod LateFormLists
pub mod Descending
