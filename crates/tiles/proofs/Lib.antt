-- Closed facts, the page for readers, and the laws of tiles, which the crates above cite.
pub mod ATiles
pub mod TilePromises
pub mod HeldLaws
pub mod TileLaws
pub mod PlaceLaws
pub mod RecountLaws
