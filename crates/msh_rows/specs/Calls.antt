-- Words of the crate's own calls.
pub mod Elements
