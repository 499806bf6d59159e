pub mod ElementRows
pub mod RowMeanings
pub mod TagLoop
