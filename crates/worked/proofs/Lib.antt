-- The table of document 01's worked values, and two pages for readers about the leaves.
pub mod Table
pub mod LeafNumbers
pub mod LeafPromises
