-- Document 01, "Picture and step": what stands in a cell, what a pixel reads by it, and the two ways in which a step changes a number.
--
--   named n  --a queued child covers the pixel-->  named m  --the queue passes m by-->  reads False
--      |                                                                  (nothing is written: it is the reading that changes)
--      +--a marked child covers the pixel-->  marked_true  --giving up, unless it spares True-->  given_up
--      +--giving up-->  given_up  --a marked child covers the pixel-->  marked_true
use Rattle.std.specs.Prelude.{Bool, cond, ℕ, leb}

-- what stands in a cell: True, given up, or the number of a block
pub data Standing : Type 0 where
  marked_true : Standing
  given_up : Standing
  named : ℕ → Standing

-- what a pixel reads
pub data PixelReading : Type 0 where
  reads_true reads_false reads_uncertain : PixelReading

-- a pixel that a block stands for is Uncertain until that block has been taken, and False from then on; one that was given up stays Uncertain
unfoldable pub standing_reads : ℕ → Standing → PixelReading
standing_reads taken marked_true = reads_true
standing_reads taken given_up = reads_uncertain
standing_reads taken (named n) = cond (leb taken n) reads_uncertain reads_false

-- a queued child takes over the cells under it, except those left by blocks before the one just taken, whose number is how many were taken before it
unfoldable pub renamed : ℕ → ℕ → Standing → Standing
renamed taken new marked_true = marked_true
renamed taken new given_up = given_up
renamed taken new (named n) = cond (leb taken n) (named new) (named n)

-- giving a block up overwrites what stands in its cells, a True as well; the sparing mode leaves the True ones
unfoldable pub after_giving_up : Bool → Standing → Standing
after_giving_up spare marked_true = cond spare marked_true given_up
after_giving_up spare given_up = given_up
after_giving_up spare (named n) = given_up
