pub mod Shelf
pub mod Whole
pub mod MemState
pub mod MemView
pub mod MemCode
pub mod OsState
pub mod Calls
