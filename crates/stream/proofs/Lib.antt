-- Lemmas on what reads take of a stream.
pub mod Taken
