pub mod Accepted
pub mod Calls
pub mod Decisions
pub mod Poses
pub mod Steps
