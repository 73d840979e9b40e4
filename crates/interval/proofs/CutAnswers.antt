-- What a caller may know of the answers of `first_cut` and `later_cut` on a legal interval: the pieces are those of the definition,
-- each is legal, put and of f64s, and they are one to three (`first_answered`, `later_answered`). Assumes nothing.
use Rattle.std.proofs.Common.{◌≡◌, ◌≤◌, Bool, true, false, List, length, sym, ap, ◌∙◌, subst}
use lib.Ieee.{eq}
use lib.Ieee.Scale.{finite}
use Rattle.base.proofs.Test.{≡→T, cases}
use Rattle.base.specs.Lists.{Every}
use Rattle.interval.specs.declared.Interval.{Interval}
use Rattle.std.specs.Prelude.{Result}
use Rattle.refusal.specs.declared.Refusal.{Refusal}
use Rattle.interval.specs.declared.Pieces.{Pieces}
use Rattle.interval.specs.Bounds.{legal_interval, put_interval, InFormat}
use Rattle.interval.specs.Cuts.{width_is, span_of, first_cut, later_cut}
use Rattle.interval.specs.Answers.{pieces_from, pieces_at, pieces_of}
use Rattle.interval.proofs.Legality.{legal_bounds_lem, put_legal, whole_ends}
use Rattle.interval.proofs.ProperPieces.{Proper, Few, few_back, few_count, span_proper, point_bounds, put_format}
use Rattle.interval.proofs.FirstCut.{le_itself, first_whole, first_up_to, first_from, first_one, first_two, first_three, first_real}
use Rattle.interval.proofs.LaterCut.{later_proper, later_few}

-- what holds of a list of pieces
pub record Pieced (integer : Bool) (l : List Interval) : Type 0 where
  pub proper : Every (Proper integer) l
  pub few : Few l

-- ---- the first cut, by its kinds
module _ (x : Interval) (integer : Bool) (f : InFormat x) (h : legal_interval x integer ≡ true) where
  low_proper : finite x.lower ≡ true → Proper integer (span_of x.lower x.lower)
  low_proper g =
      let c = x.lower in
      span_proper c c integer f.0 f.0 (point_bounds c c (le_itself c (≡→T g)) (≡→T g)) (λ e. let w = whole_ends x integer h e in (w.0, w.0))

  high_proper : finite x.upper ≡ true → Proper integer (span_of x.upper x.upper)
  high_proper g =
      let c = x.upper in
      span_proper c c integer f.1 f.1 (point_bounds c c (le_itself c (≡→T g)) (≡→T g)) (λ e. let w = whole_ends x integer h e in (w.1, w.1))

  all_proper : Proper integer (span_of x.lower x.upper)
  all_proper = span_proper x.lower x.upper integer f.0 f.1 (legal_bounds_lem x integer h) (whole_ends x integer h)

pub first_good : (x : Interval) (integer : Bool) → InFormat x → legal_interval x integer ≡ true → Pieced integer (first_cut x integer)
first_good x integer f h =
    cases (finite x.lower)
    (λ g. cases (finite x.upper) (λ k. between integer f h g k) (λ k. subst (Pieced integer) (sym (first_from x integer h g k)) (record { proper = (low_proper x integer f h g, (all_proper x integer f h, tt)); few = tt })))
    (λ g. cases (finite x.upper)
    (λ k. subst (Pieced integer) (sym (first_up_to x integer h g k)) (record { proper = (all_proper x integer f h, (high_proper x integer f h k, tt)); few = tt }))
    (λ k. subst (Pieced integer) (sym (first_whole x integer h g k)) (record { proper = (all_proper x integer f h, tt); few = tt })))
  where
    between : (integer : Bool) → InFormat x → legal_interval x integer ≡ true → finite x.lower ≡ true → finite x.upper ≡ true → Pieced integer (first_cut x integer)
    between false f h g k = subst (Pieced false) (sym (first_real x h g k)) (record { proper = (low_proper x false f h g, (all_proper x false f h, (high_proper x false f h k, tt))); few = tt })
    between true f h g k =
        cases (eq x.lower x.upper)
        (λ e. subst (Pieced true) (sym (first_one x f h g k e)) (record { proper = (low_proper x true f h g, tt); few = tt }))
        (λ e. cases (width_is 1 x)
        (λ w. subst (Pieced true) (sym (first_two x f h g k w)) (record { proper = (low_proper x true f h g, (high_proper x true f h k, tt)); few = tt }))
        (λ w. subst (Pieced true) (sym (first_three x h g k e w)) (record { proper = (low_proper x true f h g, (all_proper x true f h, (high_proper x true f h k, tt))); few = tt })))

pub later_good : (x : Interval) (integer : Bool) → InFormat x → legal_interval x integer ≡ true → Pieced integer (later_cut x integer)
later_good x integer f h = record { proper = later_proper x integer f h; few = later_few x integer f h }

-- ---- the answers
pub record Answered (integer : Bool) (l : List Interval) (r : Result Pieces Refusal) : Type 0 where
  pub pieces : pieces_of r ≡ l
  pub proper : Every (Proper integer) (pieces_of r)
  pub some : 1 ≤ length (pieces_of r)
  pub most : length (pieces_of r) ≤ 3

answer : (integer : Bool) (l : List Interval) (r : Result Pieces Refusal) → Pieced integer l → r ≡ pieces_from l → Answered integer l r
answer integer l r g e =
    let back : pieces_of r ≡ l = ap pieces_of e ∙ few_back l g.few in
    let n = few_count l g.few in
    record {
      pieces = back;
      proper = subst (Every (Proper integer)) (sym back) g.proper;
      some = subst (λ (z : List Interval). 1 ≤ length z) (sym back) n.0;
      most = subst (λ (z : List Interval). length z ≤ 3) (sym back) n.1;
    }

module _ (x : Interval) (integer : Bool) (f : InFormat x) (h : legal_interval x integer ≡ true) where
  pub first_answered : (r : Result Pieces Refusal) → r ≡ pieces_at (legal_interval x integer) (first_cut (put_interval x) integer) → Answered integer (first_cut (put_interval x) integer) r
  first_answered r e =
      let l = first_cut (put_interval x) integer in
      answer integer l r (first_good (put_interval x) integer (put_format x f) (put_legal x integer ∙ h)) (e ∙ ap (λ (z : Bool). pieces_at z l) h)

  pub later_answered : (r : Result Pieces Refusal) → r ≡ pieces_at (legal_interval x integer) (later_cut (put_interval x) integer) → Answered integer (later_cut (put_interval x) integer) r
  later_answered r e =
      let l = later_cut (put_interval x) integer in
      answer integer l r (later_good (put_interval x) integer (put_format x f) (put_legal x integer ∙ h)) (e ∙ ap (λ (z : Bool). pieces_at z l) h)
