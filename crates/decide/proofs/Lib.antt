-- Laws that the functions' proofs and the crates above cite.
pub mod VerdictLaws
pub mod DamageLaws
pub mod ListingLaws
pub mod ChildAtLaws
pub mod ChildAtCode
pub mod TurnLaws
