-- What private functions give.
pub mod Buckets
pub mod Cells
