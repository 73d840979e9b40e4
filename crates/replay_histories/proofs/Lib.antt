-- Laws about the counting.
pub mod CountingLaws
