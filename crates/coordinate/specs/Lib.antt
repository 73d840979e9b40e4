-- The definitions that the contracts cite.
pub mod Axis
pub mod Lone
pub mod Answers
