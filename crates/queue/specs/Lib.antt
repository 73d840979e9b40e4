-- The definitions that the contracts cite.
pub mod Ring
pub mod Directions
pub mod Block
pub mod Code
pub mod Decode
pub mod Queue
pub mod Answers
-- and those that private contracts alone cite
pub mod RingComputed
pub mod DirectionsComputed
pub mod CodeComputed
pub mod DecodeComputed
