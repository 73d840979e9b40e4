-- The abstract engine, and the words in which its promises are stated.
pub mod Cells
pub mod Runs
pub mod Demand3
pub mod Levels
pub mod Shapes
pub mod Colours
pub mod Positions
pub mod Cuts
pub mod Why
