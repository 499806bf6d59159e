-- Words that only private calls cite.
pub mod Halves
pub mod Moves
pub mod RelativeMoves
