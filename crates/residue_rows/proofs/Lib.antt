mod Added
pub mod Dots
mod Entries
pub mod EchelonForms
mod Fractions
pub mod Picked
mod Products
mod EuclidRests
mod Iterations
pub mod Congruences
mod MonomialsListed
pub mod Powers
pub mod Drawn
pub mod Shares
pub mod Spans
mod Clean
mod Leads
mod Leading
mod Untold
pub mod ElementSteps
