pub mod Choosing
pub mod Summing
pub mod Behind
pub mod Identifying
pub mod VerdictLaws
pub mod Over
pub mod Valid
mod RowReads
mod ListReads
mod ReadCertificates
mod UnknownNames
mod StepReads
mod StepShapes
mod CertDocuments
