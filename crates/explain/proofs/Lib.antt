-- Why the explainer's answer is what happened.
pub mod AReason
pub mod LookLaws
pub mod LookMeans
pub mod NoteLaws
pub mod NotesMean
pub mod RepeatLoop
pub mod HistoryLaws
pub mod WalkLaws
pub mod BeginLaws
pub mod ReasonLaws
pub mod ExplainLaws
pub mod ExplainNumbers
