-- What an explanation answers and leaves.
pub mod History
pub mod Reasons
pub mod Explained
pub mod LookComputed
pub mod NotesComputed
pub mod RepeatComputed
pub mod ExplainComputed
