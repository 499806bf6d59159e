mod BoxesInTheBox
mod CloseBoxes
mod Counts
mod PlacedParts
pub mod AscendingRows
pub mod CloseCounts
pub mod KeptAll
pub mod MovingPairs
pub mod RowsOfPairs
pub mod SameFilter
pub mod Untouched
