-- The words in which the table is written.
pub mod Words
