pub mod Steps
pub mod Sized
pub mod Quotients
pub mod Dividing
pub mod Loop
