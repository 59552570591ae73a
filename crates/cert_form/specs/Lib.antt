pub mod Form
pub mod Faults
pub mod Path
pub mod Cert
pub mod Written
