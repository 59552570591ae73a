pub mod Outcomes
mod Lists
mod Members
mod Ending
