-- Laws of the small numbers: trailing zeros, what the writer gives, what the reader gives.
pub mod Zeros
pub mod Writing
pub mod TailLaws
pub mod Reading
