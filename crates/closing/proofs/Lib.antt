pub mod Tied
mod KeptMaps
mod Composing
mod Steps
mod Lists
mod Onward
mod Testing
mod Listed
mod Rows
mod Proved
mod Values
mod Ends
mod Modular
mod Letters
mod Parts
pub mod Countered
pub mod TwoRows
pub mod TwoSamples
pub mod Squaring
mod Reduced
mod ZeroRows
mod Stopped
mod Sampled
mod Appended
mod Beginning
mod ElementsLeft
mod Sequels
mod Taking
