-- What private functions give.
pub mod Boxes
pub mod Counts
pub mod LooseBox
pub mod Rows
pub mod Walk
