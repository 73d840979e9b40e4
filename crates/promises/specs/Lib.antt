-- The words in which the engine's promises are stated.
pub mod Chart
pub mod Steps
pub mod Calls
pub mod Judgements
pub mod Mixes
pub mod ByBoxes
pub mod Sentences
pub mod EnoughRoom
pub mod Alike
pub mod Tables
pub mod Why
