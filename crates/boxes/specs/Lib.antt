-- The definitions that the contracts cite, in the order of document 02, (ii), and what its promises are stated by.
pub mod Arithmetic
pub mod Maps
pub mod Pixels
pub mod PixelsComputed
pub mod Boxes
pub mod Answers
pub mod Ratios
pub mod Enclosure
