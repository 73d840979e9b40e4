-- The definitions that the contracts cite.
pub mod Engine
pub mod Leaf
pub mod LeafComputed
pub mod Boxing
pub mod Explaining
