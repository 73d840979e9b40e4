-- The definitions that the contracts cite, in the order of document 01, "Intervals and their cutting".
pub mod Bounds
pub mod Middle
pub mod Next
pub mod Kinds
pub mod KindsComputed
pub mod Cuts
pub mod Fraction
pub mod Answers
pub mod AnswersComputed
