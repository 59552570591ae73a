pub mod Leads
pub mod Tails
pub mod Tidying
pub mod Reduction
