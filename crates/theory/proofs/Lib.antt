-- What is proved. Theorems is the reader's entry: each promise under its sentence.
pub mod Theorems
-- demand 3
pub mod Nameless
pub mod StandingLaws
pub mod Invariant
pub mod FalseRule
pub mod GreyRule
pub mod FirstInFirstOut
pub mod TrueStays
pub mod RunLaws
-- the bound
pub mod ListLaws
pub mod Potential
pub mod Sums
pub mod ChildPlaces
pub mod PlaceCount
pub mod Bounds
-- the colours, and the covering laws
pub mod JudgementLaws
pub mod TrueMeansYes
pub mod WhiteMeansNo
pub mod Decided
pub mod HalvesHold
pub mod Edges
pub mod IntegerLaws
pub mod CutsHold
-- why a pixel reads what it reads
pub mod WhyCells
pub mod WhyReadings
pub mod WhyCovered
-- closed instances
pub mod ExampleSteps
pub mod ExamplePicture
pub mod ExamplePromises
pub mod ExampleParameter
pub mod ExampleReal
pub mod ExampleStrip
