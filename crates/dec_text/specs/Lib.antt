pub mod Decimal
pub mod Grid
pub mod GridText
pub mod AddsText
pub mod Calls
