-- Laws on plain values that the functions' proofs and other crates cite.
-- boxes, computed
pub mod ABox
-- whole numbers and exact values
pub mod Integers
pub mod RatioLaws
-- rounding outward
pub mod RoundedBounds
pub mod Candidates
pub mod AroundLaws
pub mod Enclosures
pub mod MapEnclosures
-- a block's edges in pixels, its box
pub mod PixelPoints
pub mod BoxLaws
pub mod AxisEnclosures
pub mod Fifteen
pub mod BoxInverted
-- for readers
pub mod BoxPromises
