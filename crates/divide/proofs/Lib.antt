pub mod Finding
pub mod OneCut
pub mod Parts
pub mod Divided
pub mod Like
pub mod Ended
pub mod Refused
