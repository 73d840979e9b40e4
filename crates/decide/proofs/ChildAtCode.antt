-- What the code of the pieces and of the cut answers is what the definitions say. Assumes nothing.
use Rattle.std.specs.Prelude.{Option, Some, None}
use mathlib.Core.Path.{◌≡◌, refl, sym, ap, ◌∙◌}
use mathlib.Core.Bool.{Bool, true, false, cond}
use mathlib.Core.List.{List, [], ◌∷◌}
use Prim.Native.Nat.{ℕ, ◌≤◌}
use native.Mathlib.Omega.{arith}
use lib.Dec.{ltb}
use lib.ListN.{length, get_or, get_or-eq_default}
use lib.ListN as L
use borrow.Author.Tests.{ltb-true, ltb-false, le-ltb}
use Rattle.base.proofs.Test.{cases, by_test}
use Rattle.interval.specs.declared.Interval.{Interval}
use Rattle.std.specs.Prelude.{Result}
use Rattle.refusal.specs.declared.Refusal.{Refusal}
use Rattle.interval.specs.declared.Pieces.{Pieces}
use Rattle.interval.specs.Answers.{pieces_at, pieces_of}
use Rattle.interval.specs.Bounds.{legal_interval, put_interval}
use Rattle.interval.specs.Cuts.{later_cut}
use Rattle.interval.proofs.ProperPieces.{pieces_back}
use Rattle.queue.specs.declared.Block.{Block}
use Rattle.queue.specs.declared.directions.Direction.{Direction}
use Rattle.queue.specs.declared.directions.Direction.TheVariants as D
use Rattle.queue.specs.Block.{is_integer, parameter_of, with_parameter}
use Rattle.decide.specs.declared.Chosen.{Chosen}
use Rattle.decide.specs.declared.children.Cut.{Cut}
use Rattle.decide.specs.Damage.{sound, direction_of}
use Rattle.decide.specs.Children.{children_cut, children_along, children_of, listed}
use Rattle.decide.specs.ChildAt.{piece_of, child_of, right_listed, cut_of}
use Rattle.decide.specs.ChildrenComputed.{quarters_cut, later_count, pieces_cut}
use Rattle.decide.proofs.DamageLaws.{LegalParameters, is_sound}
use Rattle.decide.proofs.ListingLaws.{later_cut_count, cut_along, children_few, unsound}
use Rattle.decide.proofs.ChildAtLaws.{above_kept, child_of_lem, four_places, kept_quarters, quarters_count, right_kept, x_halved, y_halved}

-- the pieces, by what the cut answers
module _ (x : Interval) (integer : Bool) (a v : Result Pieces Refusal)
    (asked : a ≡ pieces_at (legal_interval x integer) (later_cut (put_interval x) integer)) (told : a ≡ v) where
  pieces_told : pieces_of v ≡ cond (legal_interval x integer) (later_cut (put_interval x) integer) []
  pieces_told = ap pieces_of (sym told ∙ asked) ∙ go (legal_interval x integer)
    where
      few : length (later_cut (put_interval x) integer) ≤ 3
      few = (later_cut_count (put_interval x) integer).1

      go : (t : Bool) → pieces_of (pieces_at t (later_cut (put_interval x) integer)) ≡ cond t (later_cut (put_interval x) integer) []
      go true = pieces_back (later_cut (put_interval x) integer) few
      go false = refl

  pub pieces_counted : length (pieces_of v) ≡ later_count x integer
  unfolding later_count
  pieces_counted = ap length pieces_told ∙ go (legal_interval x integer) (later_cut (put_interval x) integer)
    where
      go : (t : Bool) (l : List Interval) → length (cond t l []) ≡ cond t (length l) 0
      go true l = refl
      go false l = refl

  pub piece_told : (j : ℕ) → get_or (pieces_of v) j x ≡ piece_of x integer j
  unfolding piece_of
  piece_told j = ap (λ (l : List Interval). get_or l j x) pieces_told ∙ go (legal_interval x integer) (later_cut (put_interval x) integer)
    where
      go : (t : Bool) (l : List Interval) → get_or (cond t l []) j x ≡ cond t (get_or l j x) x
      go true l = refl
      go false l = refl

-- a cut, by the direction
abbrev cut_by : Chosen → Block → Option Direction → Cut
cut_by p b a = record { along = a; right = right_listed p b a; count = length (children_along p b a) }

-- along a parameter
pieces_by : (p : Chosen) (b : Block) (d : Direction) → (d ≡ D.XY → ⊥) → LegalParameters b
    → pieces_cut d (parameter_of b d) (is_integer d) ≡ cut_by p b (Some d)
unfolding later_count children_cut
pieces_by p b D.XY q l = absurd (q refl)
pieces_by p b D.M q l = rw (l.m, L.length-map (later_cut (put_interval b.m) true) (with_parameter b D.M))
pieces_by p b D.N q l = rw (l.n, L.length-map (later_cut (put_interval b.n) true) (with_parameter b D.N))
pieces_by p b D.Theta q l = rw (l.theta, L.length-map (later_cut (put_interval b.theta) true) (with_parameter b D.Theta))
pieces_by p b D.T q l = rw (l.t, L.length-map (later_cut (put_interval b.t) false) (with_parameter b D.T))

module _ (p : Chosen) (b : Block) (a : Option Direction) (ok : sound p b ≡ true) (e : a ≡ direction_of p b) where
  by_direction : cut_by p b a ≡ cut_of p b
  unfolding cut_of children_of
  by_direction = rw (ok, e)

  pub cut_quartered : a ≡ Some D.XY → quarters_cut p b.x b.y ≡ cut_of p b
  cut_quartered i =
      let up = cut_along p b D.XY ok (sym e ∙ i) refl in
      let t : quarters_cut p b.x b.y ≡ cut_by p b (Some D.XY) =
      rw (
        (x_halved p b ok up).high,
        (y_halved p b ok up).high,
        ← kept_quarters p b ok up,
        quarters_count b (right_kept p b ok up) (above_kept p b ok up),
      ) in
      t ∙ ap (cut_by p b) (sym i) ∙ by_direction

  pub cut_pieces : (d : Direction) → a ≡ Some d → (d ≡ D.XY → ⊥) → pieces_cut d (parameter_of b d) (is_integer d) ≡ cut_of p b
  cut_pieces d i q = pieces_by p b d q (is_sound p b ok).block.parameters ∙ ap (cut_by p b) (sym i) ∙ by_direction

  pub cut_beyond : a ≡ None → record { along = None; right = false; count = 1 } ≡ cut_of p b
  cut_beyond f = ap (cut_by p b) (sym f) ∙ by_direction

pub cut_damaged : (p : Chosen) (b : Block) (a : Option Direction) → sound p b ≡ false → a ≡ direction_of p b
    → record { along = a; right = false; count = 0 } ≡ cut_of p b
unfolding cut_of children_of
cut_damaged p b a bad e = rw (bad, e)

-- THE LISTING

-- what it has at a place
abbrev place_listed : Cut → Block → ℕ → Block
place_listed k b j = cond (ltb j k.count) (child_of k b j) b

place_listed_lem : (p : Chosen) (b : Block) (j : ℕ) → place_listed (cut_of p b) b j ≡ get_or (children_of p b) j b
unfolding cut_of
place_listed_lem p b j =
    cases (sound p b)
    (λ ok. by_test (λ (c : Block). c ≡ get_or (children_of p b) j b) (ltb j (length (children_of p b))) (child_of (cut_of p b) b j) b
    (λ t. child_of_lem p b ok j (ltb-true j (length (children_of p b)) t))
    (λ t. sym (get_or-eq_default (children_of p b) b (ltb-false j (length (children_of p b)) t))))
    (λ bad. rw (unsound p b bad, le-ltb j 0 (omega arith)))

pub children_as : (p : Chosen) (b : Block) (k : Cut) (q r o w : Block)
    → k ≡ cut_of p b → q ≡ place_listed k b 0 → r ≡ place_listed k b 1 → o ≡ place_listed k b 2 → w ≡ place_listed k b 3
    → record { at = q ∷ r ∷ o ∷ w ∷ []; count = k.count } ≡ listed b (children_of p b)
unfolding cut_of
children_as p b k q r o w e f g h i =
    let at : (c : Block) (j : ℕ) → c ≡ place_listed k b j → c ≡ get_or (children_of p b) j b =
    (λ c j u. u ∙ ap (λ (m : Cut). place_listed m b j) e ∙ place_listed_lem p b j) in
    let n : k.count ≡ length (children_of p b) = ap (λ (m : Cut). m.count) e in
    rw (at q 0 f, at r 1 g, at o 2 h, at w 3 i, n, four_places (children_of p b) b (children_few p b))
