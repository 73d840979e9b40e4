-- Laws that the functions' proofs and the crates above cite.
pub mod CoverLaws
pub mod PlaceLaws
pub mod JudgeLaws
pub mod InOrder
pub mod JudgedLaws
pub mod ChildLaws
pub mod QueuedLaws
pub mod EventLaws
pub mod GiveUpLaws
