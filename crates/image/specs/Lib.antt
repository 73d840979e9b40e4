-- The definitions that the contracts cite.
pub mod Cell
pub mod Range
pub mod Painting
pub mod RowsComputed
