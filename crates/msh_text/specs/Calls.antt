-- Words of the crate's own calls.
pub mod Growth
pub mod Reading
