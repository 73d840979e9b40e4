-- Laws that the functions' proofs cite.
pub mod ByteLaws
pub mod EntryLaws
pub mod PlayingLaws
pub mod WordLaws
