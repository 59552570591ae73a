pub mod Made
pub mod Mixed
pub mod Sugars
pub mod Tables
pub mod Walking
pub mod Placing
mod Entering
pub mod Putting
pub mod Added
pub mod Coming
pub mod Drawn
pub mod Like
pub mod First
