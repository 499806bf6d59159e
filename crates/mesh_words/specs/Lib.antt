pub mod Elements
pub mod Index
pub mod Kinds
pub mod Numbers
pub mod Rows
