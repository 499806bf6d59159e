pub mod Certificates
pub mod Examples
pub mod Meeting
pub mod Moments
pub mod Safety
pub mod SweptBoxes
