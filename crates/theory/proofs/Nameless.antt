-- A cell that is True or given up names no block. Nor does one after giving up. Assumes nothing.
use mathlib.Core.Bool.{Bool, true, false}
use Rattle.theory.specs.Cells.{Standing, marked_true, given_up, named, after_giving_up}

abbrev pub Nameless : Standing → Type 0
Nameless marked_true = Unit {0}
Nameless given_up = Unit {0}
Nameless (named n) = ⊥

pub given_nameless : (spare : Bool) (v : Standing) → Nameless (after_giving_up spare v)
unfolding after_giving_up
given_nameless true marked_true = tt
given_nameless false marked_true = tt
given_nameless spare given_up = tt
given_nameless spare (named n) = tt
