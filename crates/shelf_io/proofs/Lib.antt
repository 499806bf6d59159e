pub mod Pieces
pub mod FileMaps
pub mod FileWrites
pub mod FrontRead
pub mod Entries
