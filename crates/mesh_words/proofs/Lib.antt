pub mod FieldValues
pub mod IndexLemmas
pub mod Positions
pub mod SectionWords
