-- The definitions that the contracts cite.
pub mod Small
pub mod Answers
