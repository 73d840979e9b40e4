-- The definitions that the contracts cite.
pub mod Kind
pub mod Record
pub mod Replay
