-- The definitions that the contracts cite.
pub mod Tiles
pub mod TilesComputed
