-- The real cutting loses nothing: a mix of a pixel that a sound block holds lies in one of its children, along xy and along every parameter.
-- Assumes nothing.
use Rattle.std.specs.Prelude.{Option}
use mathlib.Core.Path.{◌≡◌, refl, sym, ap, ◌∙◌}
use mathlib.Core.Logic.{inl, inr}
use mathlib.Core.Bool.{Bool, true}
use mathlib.Core.List.{List, [], ◌∷◌, map}
use native.Mathlib.Omega.{arith}
use lib.Dec.{ltb}
use lib.Ieee.{Float}
use borrow.Author.Tests.{ltb-true}
use Rattle.base.proofs.Test.{by_test}
use Rattle.coordinate.specs.Axis.{ordinary_floor}
use Rattle.interval.specs.declared.Interval.{Interval}
use Rattle.interval.specs.Bounds.{InFormat, legal_interval, in_units, zero_as}
use Rattle.interval.specs.Cuts.{later_cut}
use Rattle.interval.proofs.Zeros.{as_units}
use Rattle.interval.proofs.LaterCut.{later_real}
use Rattle.queue.specs.declared.Block.{Block}
use Rattle.queue.specs.declared.directions.Direction.{Direction}
use Rattle.queue.specs.declared.directions.Direction.TheVariants as D
use Rattle.std.specs.declared.option.Option.TheVariants as A
use Rattle.queue.specs.Block.{is_integer, parameter_of, with_parameter}
use Rattle.decide.specs.declared.Chosen.{Chosen}
use Rattle.decide.specs.Damage.{sound, direction_of}
use Rattle.decide.specs.Children.{quarters_of, begins_inside, kept_inside, children_xy, children_cut, children_along, children_of}
use Rattle.decide.proofs.ListingLaws.{cut_along}
use Rattle.plan.proofs.PlaceLaws.{each_kept}
use Rattle.plan.proofs.ChildLaws.{Fine, direction_in_use}
use Rattle.implicit.specs.declared.state.Ranges.{Ranges}
use Rattle.theory.specs.Colours.{Question, Holds, LosesNothing}
use Rattle.theory.specs.Positions.{PlaceHolds}
use Rattle.theory.specs.Shapes.{quarters}
use Rattle.base.specs.Lists.{Some, Every}
use Rattle.base.proofs.ListLaws.{some_mono, some_map, every_also}
use Rattle.theory.proofs.Theorems.{quarters_lose_nothing}
use Rattle.theory.proofs.ListLaws.{some_of_map}
use Rattle.promises.specs.Chart.{Pixel, place_of_block, covers_in}
use Rattle.promises.specs.Mixes.{Measures, Mix, HeldIn, HeldBy, question_of}
use Rattle.promises.proofs.JudgementPlaces.{children_places}
use Rattle.promises.proofs.Judgements.{cutting_of, same_covers_in}
use Rattle.promises.proofs.CutReals.{later_real_holds}
use Rattle.promises.proofs.CutIntegers.{later_integer_holds}

-- what holds of each member, and what of one
some_each : {A : Type 0} (P Q R : A → Type 0) → ((a : A) → P a → Q a → R a) → (l : List A) → Every P l → Some Q l → Some R l
unfolding Some
some_each P Q R f [] h k = k
some_each P Q R f (a ∷ l) h (inl k) = inl (f a h.0 k)
some_each P Q R f (a ∷ l) h (inr k) = inr (some_each P Q R f l h.1 k)

module _ (M : Measures) where
  pub units_put : (t : Bool) (x : Float) → M.of_units (in_units (zero_as t x)) ≡ M.of_units (in_units x)
  units_put t x = ap M.of_units (as_units t x)

  -- ---- parameters

  -- the value of one parameter, and a block with another interval for it
  pub held_along : (d : Direction) (b : Block) (a : Mix M) → HeldBy M b a → HeldIn M d (parameter_of b d) a
  held_along D.XY b a h = unfold HeldIn in tt
  held_along D.M b a h = h.0
  held_along D.N b a h = h.1
  held_along D.Theta b a h = h.2
  held_along D.T b a h = h.3

  pub held_with : (d : Direction) (b : Block) (u : Interval) (a : Mix M) → HeldBy M b a → HeldIn M d u a → HeldBy M (with_parameter b d u) a
  held_with D.XY b u a h k = h
  held_with D.M b u a h k = (k, h.1, h.2, h.3)
  held_with D.N b u a h k = (h.0, k, h.2, h.3)
  held_with D.Theta b u a h k = (h.0, h.1, k, h.3)
  held_with D.T b u a h k = (h.0, h.1, h.2, k)

  pub place_with : (d : Direction) (b : Block) (u : Interval) → place_of_block (with_parameter b d u) ≡ place_of_block b
  place_with D.XY b u = refl
  place_with D.M b u = refl
  place_with D.N b u = refl
  place_with D.Theta b u = refl
  place_with D.T b u = refl

  -- a later cut loses no value
  later_held : (d : Direction) (v : Interval) → InFormat v → legal_interval v (is_integer d) ≡ true → (a : Mix M) → HeldIn M d v a
      → Some (λ u. HeldIn M d u a) (later_cut v (is_integer d))
  unfolding HeldIn Some
  later_held D.XY v f h a k = rw (later_real v) (inl tt)
  later_held D.M v f h a k = later_integer_holds v f h a.m k
  later_held D.N v f h a k = later_integer_holds v f h a.n k
  later_held D.Theta v f h a k = later_integer_holds v f h a.theta k
  later_held D.T v f h a k = later_real_holds M.AtMost (λ x. M.of_units (in_units x)) units_put v h f M.in_order a.t k

  module _ (p : Chosen) (r : Ranges) (Solves : Mix M → Type 0) where
    abbrev Q : Question Block (Pixel p)
    Q = question_of M p r Solves

    -- another interval for a parameter that holds the value
    pub holds_with : (d : Direction) (b : Block) (u : Interval) (a : Mix M) (q : Pixel p) → Holds (covers_in p) Q a q b → HeldIn M d u a
        → Holds (covers_in p) Q a q (with_parameter b d u)
    unfolding Holds
    holds_with d b u a q h k = rw (place_with d b u) ((h.0.0, held_with d b u a h.0.1 k), h.1)

    module _ (b : Block) (ok : sound p b ≡ true) (fine : Fine p.set b) (a : Mix M) (q : Pixel p) (h : Holds (covers_in p) Q a q b) where
      split_cut : (d : Direction) → direction_of p b ≡ A.Some d → Some (Holds (covers_in p) Q a q) (children_cut b d)
      unfolding children_cut Holds
      split_cut d e =
          let z = (fine d).proper (direction_in_use p b d e) in
          let v = parameter_of b d in
          rw z.put
          (some_map (Holds (covers_in p) Q a q) (with_parameter b d) (later_cut v (is_integer d))
          (some_mono (λ u. HeldIn M d u a) (λ u. Holds (covers_in p) Q a q (with_parameter b d u)) (later_cut v (is_integer d)) (λ u k. holds_with d b u a q h k)
          (later_held d v z.format z.legal a (held_along d b a h.0.1))))

      -- along xy the parameters stay as they are
      xy_held : Every (λ c. HeldBy M c a) (children_xy p b)
      unfolding children_xy quarters_of Holds
      xy_held =
          let k : HeldBy M b a = h.0.1 in
          let four : Every (λ c. HeldBy M c a) (quarters_of b) = (k, (k, (k, (k, tt)))) in
          by_test (Every (λ c. HeldBy M c a)) (ltb 48 b.x.rank) (kept_inside p (quarters_of b)) (quarters_of b)
          (λ e. each_kept p (λ c. HeldBy M c a) (quarters_of b) (every_also (λ c. HeldBy M c a) (λ c. begins_inside p c ≡ true → HeldBy M c a) (λ c l f. l) (quarters_of b) four))
          (λ e. four)

      -- one of the quarters that are listed holds the point as one of the pixel
      split_xy : direction_of p b ≡ A.Some D.XY → Q.At a q → Some (Holds (covers_in p) Q a q) (children_xy p b)
      unfolding Holds PlaceHolds
      split_xy e at =
          let up = ltb-true ordinary_floor b.x.rank (cut_along p b D.XY ok e refl) in
          let listed : map place_of_block (children_xy p b) ≡ quarters 48 p.width p.height (place_of_block b) = sym (ap (map place_of_block) (children_are e)) ∙ children_places p b ok e in
          let s : Some (PlaceHolds 48 M.LiesX M.LiesY a.x a.y q) (map place_of_block (children_xy p b)) =
          rw listed
          (quarters_lose_nothing p.width p.height 48 M.LiesX M.ruler_x M.LiesY M.ruler_y q a.x a.y (place_of_block b) (omega arith) at.0 at.1 (h.0.0, h.1)) in
          some_each (λ c. HeldBy M c a) (λ c. PlaceHolds 48 M.LiesX M.LiesY a.x a.y q (place_of_block c)) (Holds (covers_in p) Q a q) (λ c k l. ((l.0, k), l.1)) (children_xy p b) xy_held
          (some_of_map (PlaceHolds 48 M.LiesX M.LiesY a.x a.y q) place_of_block (children_xy p b) s)
        where
          children_are : direction_of p b ≡ A.Some D.XY → children_of p b ≡ children_xy p b
          children_are e = unfold children_of in rw (ok, e)

      split_along : (w : Option Direction) → direction_of p b ≡ w → Q.At a q → Some (Holds (covers_in p) Q a q) (children_along p b w)
      split_along (A.Some D.XY) e at = split_xy e at
      split_along (A.Some D.M) e at = split_cut D.M e
      split_along (A.Some D.N) e at = split_cut D.N e
      split_along (A.Some D.Theta) e at = split_cut D.Theta e
      split_along (A.Some D.T) e at = split_cut D.T e
      split_along A.None e at = unfold Some in inl h

      children_hold : Q.At a q → Some (Holds (covers_in p) Q a q) (children_of p b)
      unfolding children_of
      children_hold at = rw ok (split_along (direction_of p b) refl at)

    -- THE CUTTING LOSES NOTHING
    pub real_cutting : LosesNothing (covers_in p) (cutting_of p) Q
    real_cutting =
        record {
          same_covers = λ c d q e. same_covers_in p c d q e;
          same_holds = λ c d a e h. rw e h;
          split = λ b a q c g at h. children_hold b c.0 c.1 a q h at;
        }
