pub mod Calls
pub mod Example
pub mod Stored
pub mod Tables
