-- The definitions that the contracts cite.
pub mod Playing
pub mod Reading
pub mod Said
pub mod Words
