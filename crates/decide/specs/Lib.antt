-- The definitions that the contracts cite, in the document's order.
pub mod Damage
pub mod Children
pub mod ChildAt
pub mod ChildrenComputed
pub mod Verdict
pub mod Turn
