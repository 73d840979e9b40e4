-- The definitions that the contracts cite, in the document's order. Pages whose names end in Computed are cited by private functions alone.
pub mod Record
pub mod Setup
pub mod SetupComputed
pub mod Listing
pub mod Step
pub mod StepComputed
pub mod Run
pub mod RunComputed
pub mod View
pub mod Tiled
pub mod TiledComputed
pub mod Room
pub mod Move
pub mod Answers
