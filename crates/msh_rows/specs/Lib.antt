pub mod Calls
pub mod RowKinds
pub mod Rows
