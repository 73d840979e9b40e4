-- What stands in a cell and what it reads, in the words of `theory` and in those of `image`; what is done to one is done to the other. Assumes nothing.
use mathlib.Core.Path.{◌≡◌, refl}
use mathlib.Core.Logic.{◌↔◌}
use mathlib.Core.Bool.{Bool, true, false, cond}
use Prim.Native.Nat.{ℕ}
use native.Mathlib.Omega.{arith}
use lib.Dec.{leb}
use Rattle.theory.specs.Cells.{Standing, marked_true, given_up, named, PixelReading, reads_true, reads_false, reads_uncertain, standing_reads, renamed, after_giving_up}
use Rattle.image.specs.declared.Op.TheVariants as O
use Rattle.image.specs.declared.Reading.{Reading}
use Rattle.image.specs.declared.Reading.TheVariants as R
use Rattle.image.specs.Cell.{Cell, Named, Marked, GivenUp, Other, done_to, reading, is_marked, is_damaged}
use Rattle.promises.proofs.Snapshots.{standing}

-- a reading of `theory` as one of the engine
abbrev pub shown : PixelReading → Reading
shown reads_true = R.True
shown reads_false = R.False
shown reads_uncertain = R.Uncertain

shown_cond : (t : Bool) → cond t R.Uncertain R.False ≡ shown (cond t reads_uncertain reads_false)
shown_cond true = refl
shown_cond false = refl

pub reads_as : (taken : ℕ) (c : Cell) → reading taken c ≡ shown (standing_reads taken (standing c))
unfolding reading standing standing_reads
reads_as taken (Named n) = shown_cond (leb taken n)
reads_as taken Marked = refl
reads_as taken GivenUp = refl
reads_as taken (Other n) = refl

-- no two are shown alike
pub shown_one : (r s : PixelReading) → shown r ≡ shown s → r ≡ s
shown_one reads_true reads_true e = refl
shown_one reads_true reads_false e = cc
shown_one reads_true reads_uncertain e = cc
shown_one reads_false reads_true e = cc
shown_one reads_false reads_false e = refl
shown_one reads_false reads_uncertain e = cc
shown_one reads_uncertain reads_true e = cc
shown_one reads_uncertain reads_false e = cc
shown_one reads_uncertain reads_uncertain e = refl

-- DONE TO A CELL

pub mark_as : (c : Cell) → standing (done_to O.Mark c) ≡ marked_true
unfolding done_to standing
mark_as c = refl

name_cond : (t : Bool) (new n : ℕ) → standing (cond t (Named new) (Named n)) ≡ cond t (named new) (named n)
unfolding standing
name_cond true new n = refl
name_cond false new n = refl

pub name_as : (from new : ℕ) (c : Cell) → standing (done_to (O.Name from new) c) ≡ renamed from new (standing c)
unfolding done_to standing renamed
name_as from new (Named n) = name_cond (leb from n) new n
name_as from new Marked = refl
name_as from new GivenUp = refl
name_as from new (Other n) = refl

given_up_lem : (v : Standing) → given_up ≡ after_giving_up false v
unfolding after_giving_up
given_up_lem marked_true = refl
given_up_lem given_up = refl
given_up_lem (named n) = refl

pub give_up_as : (c : Cell) → standing (done_to O.GiveUp c) ≡ after_giving_up false (standing c)
unfolding done_to standing
give_up_as c = given_up_lem (standing c)

-- True is True
pub true_as : (c : Cell) → is_marked c ≡ true → standing c ≡ marked_true
unfolding is_marked standing
true_as (Named n) e = cc
true_as Marked e = refl
true_as GivenUp e = cc
true_as (Other n) e = cc

pub not_true_as : (c : Cell) → is_marked c ≡ false → ¬ (standing c ≡ marked_true)
unfolding is_marked standing
not_true_as (Named n) e f = let z : ◌≡◌ {A = ℕ} 0 1 = cc in omega arith
not_true_as Marked e f = let z : ◌≡◌ {A = ℕ} 0 1 = cc in omega arith
not_true_as GivenUp e f = let z : ◌≡◌ {A = ℕ} 0 1 = cc in omega arith
not_true_as (Other n) e f = let z : ◌≡◌ {A = ℕ} 0 1 = cc in omega arith

-- and given up is given up, of a cell that is not damaged
pub given_up_exactly : (c : Cell) → is_damaged c ≡ false → (c ≡ GivenUp) ↔ (standing c ≡ given_up)
unfolding standing is_damaged
given_up_exactly (Named n) e = ((λ f. (let z : ◌≡◌ {A = ℕ} 0 1 = cc in absurd (omega arith))), (λ f. (let z : ◌≡◌ {A = ℕ} 0 1 = cc in absurd (omega arith))))
given_up_exactly Marked e = ((λ f. (let z : ◌≡◌ {A = ℕ} 0 1 = cc in absurd (omega arith))), (λ f. (let z : ◌≡◌ {A = ℕ} 0 1 = cc in absurd (omega arith))))
given_up_exactly GivenUp e = ((λ f. refl), (λ f. refl))
given_up_exactly (Other n) e = let z : ◌≡◌ {A = ℕ} 0 1 = cc in absurd (omega arith)
