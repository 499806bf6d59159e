mod Joins
mod NodeLines
