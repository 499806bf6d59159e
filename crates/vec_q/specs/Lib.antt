pub mod Matrices
pub mod Raws
pub mod Rows
pub mod Widths
