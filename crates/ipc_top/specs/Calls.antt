-- What the calls beneath the top one answer.
pub mod Acts
pub mod Files
pub mod Frames
pub mod Jobs
pub mod Plans
