-- The definitions that the contracts cite.
pub mod Counting
pub mod Entry
pub mod Words
