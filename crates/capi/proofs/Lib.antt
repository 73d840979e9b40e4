-- The laws of what crosses.
pub mod RecordLaws
