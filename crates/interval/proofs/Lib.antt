-- Laws on plain values that the functions' proofs and other crates cite, from single floats up to the cuts.
-- single values
pub mod Naturals
pub mod Value
pub mod Zeros
pub mod Compare
pub mod UnitsOrder
pub mod Halving
pub mod HalfSum
pub mod HalfBetween
pub mod WholeRounding
pub mod Wholeness
pub mod WholeOrder
pub mod Difference
-- bit patterns and the simple fraction
pub mod Patterns
pub mod TopBits
pub mod FractionInside
pub mod BoundBits
pub mod NextBelow
pub mod Beside
-- intervals, their kinds and their cut points
pub mod Legality
pub mod Sameness
pub mod FiniteEnds
pub mod CutUpTo
pub mod CutInside
pub mod CutPoint
pub mod MiddleInside
pub mod RustChain
pub mod SplitByCut
-- the cuts
pub mod Widths
pub mod Middles
pub mod ProperPieces
pub mod LaterCut
pub mod FirstCut
pub mod CutAnswers
