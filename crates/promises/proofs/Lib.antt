-- What is promised of the engine. Promises is the reader's entry, TablePromises that of the tile counts, and WhyPromises that of the reasons: each promise under
-- its sentence.
pub mod Promises
pub mod TablePromises
pub mod WhyPromises
-- the words of the engine and those of `theory`
pub mod Covering
pub mod Snapshots
pub mod Standings
pub mod CellsKept
pub mod EventsEach
-- the invariant, and the engine's steps as `theory`'s
pub mod Remembered
pub mod Invariant
pub mod Along
pub mod MoveKeeps
pub mod StepKeeps
pub mod SetupKeeps
pub mod Linked
pub mod Answered
-- the promises
pub mod Demand3
pub mod RunSteps
pub mod NeverDamaged
pub mod Drawing
pub mod Shares
pub mod Places
pub mod PlaneBounds
pub mod FewSteps
pub mod NoneWithdrawn
pub mod Even
pub mod TrueKept
-- a ring that is enough, and a move to another
pub mod CodesFew
pub mod Siblings
pub mod EnoughRing
pub mod Moving
pub mod GoesAlike
-- what the colours mean: a step's judgements, the cuts, the question, the theorems
pub mod JudgementPlaces
pub mod Judgements
pub mod CutSpans
pub mod CutWholes
pub mod CutReals
pub mod CutIntegers
pub mod MixesSplit
pub mod MixesFirst
pub mod MixesExact
pub mod ByBoxes
pub mod ColoursHold
pub mod Greys
pub mod Screen
-- why a pixel reads what it reads
pub mod WhyLinked
pub mod WhyGivenUp
pub mod WhyPoints
pub mod WhyHolds
pub mod WhyAlike
pub mod Explains
pub mod ExplainAnswered
-- the table of tile counts
pub mod TableSteps
pub mod TableKept
pub mod TableRuns
pub mod TableAnswered
pub mod TableRefused
-- closed instances. Claims stands before the laws in the alphabet, so it is checked before them, and a sentence that became false is refused there first
pub mod Claims
pub mod ClaimsBoxes
pub mod ClaimsRoom
pub mod ClaimsShare
pub mod ClaimsTables
pub mod ClaimsWhy
pub mod ExampleSteps
pub mod ExampleRoom
pub mod Example
pub mod RoomExample
pub mod ColoursExample
pub mod ExampleBoxes
pub mod WhyExample
pub mod ExplainExample
