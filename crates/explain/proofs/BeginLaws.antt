-- Whether a setup begins, found without writing; where it does, what it leaves; and so whether 18 applies. Assumes nothing.
use mathlib.Core.Path.{◌≡◌, refl, sym, ◌∙◌}
use mathlib.Core.Bool.{Bool, true, false, cond, ◌&&◌}
use mathlib.Core.List.{List}
use Prim.Native.Nat.{ℕ, ◌≤◌, ◌<◌}
use native.Mathlib.Omega.{arith}
use lib.Dec.{leb}
use lib.ListN.{length}
use borrow.Author.Tests.{le-leb, lt-leb}
use Rattle.std.specs.Prelude.{Result, Ok, Err, MatchResult}
use Rattle.base.proofs.Test.{cases, and_left, and_right}
use Rattle.refusal.specs.declared.Refusal.{Refusal}
use Rattle.refusal.specs.declared.Refusal.TheVariants as R
use Rattle.decide.specs.declared.Chosen.{Chosen}
use Rattle.decide.specs.Damage.{legal_side}
use Rattle.implicit.specs.declared.state.State.{State}
use Rattle.implicit.specs.declared.state.Ranges.{Ranges}
use Rattle.implicit.specs.Record.{pixel_count}
use Rattle.implicit.specs.Setup.{ranges_legal, first_bytes, setup_refusal, least_ring, start_record, start_ring}
use Rattle.implicit.specs.Setup.{start_cells, setup_answer, ring_begun, cells_begun}
use Rattle.explain.specs.ExplainComputed.{is_ready}

module _ (p : Chosen) (r : Ranges) (len count : ℕ) where
  abbrev sides : Bool
  sides = legal_side p.width && legal_side p.height

  abbrev cells_enough : Bool
  cells_enough = leb (pixel_count p) count

  abbrev ranges_are_legal : Bool
  ranges_are_legal = ranges_legal p.set r

  abbrev room : Bool
  room = leb (length (first_bytes p r)) len

  -- it does if no row applies
  ready_as : is_ready (setup_answer p r len count) ≡ (sides && (cells_enough && (ranges_are_legal && room)))
  unfolding setup_answer setup_refusal
  ready_as =
      cases sides
      (λ e. cases cells_enough
      (λ f. cases ranges_are_legal (λ g. cases room (λ h. rw (e, f, g, h)) (λ h. rw (e, f, g, h))) (λ g. rw (e, f, g)))
      (λ f. rw (e, f)))
      (λ e. rw e)

  and_none : (a : Bool) → a && false ≡ false
  and_none true = refl
  and_none false = refl

  abbrev needs_of : Bool → Bool → Result ℕ Refusal
  needs_of s t = cond s (cond t (Ok (length (first_bytes p r))) (Err R.Parameter)) (Err R.Side)

  pub begins_few : count < pixel_count p → false ≡ is_ready (setup_answer p r len count)
  begins_few h = sym (ready_as ∙ rw (lt-leb (pixel_count p) count h) (and_none sides))

  -- by the bytes that it needs
  module _ (enough : pixel_count p ≤ count) (a : Result ℕ Refusal) (e : a ≡ least_ring p r) where
    pub begins_bytes : (need : ℕ) → a ≡ Ok need → leb need len ≡ is_ready (setup_answer p r len count)
    unfolding least_ring
    begins_bytes need f = go sides ranges_are_legal (sym e ∙ f) ∙ sym (ready_as ∙ rw (le-leb (pixel_count p) count enough))
      where
        go : (s t : Bool) → needs_of s t ≡ Ok need → leb need len ≡ (s && (t && room))
        go true true g = let k : length (first_bytes p r) ≡ need = cc in rw (← k)
        go true false g = let z : ◌≡◌ {A = ℕ} 0 1 = cc in absurd (omega arith)
        go false t g = let z : ◌≡◌ {A = ℕ} 0 1 = cc in absurd (omega arith)

    pub begins_not : (why : Refusal) → a ≡ Err why → false ≡ is_ready (setup_answer p r len count)
    unfolding least_ring
    begins_not why f = go sides ranges_are_legal (sym e ∙ f) ∙ sym (ready_as ∙ rw (le-leb (pixel_count p) count enough))
      where
        go : (s t : Bool) → needs_of s t ≡ Err why → false ≡ (s && (t && room))
        go true true g = let z : ◌≡◌ {A = ℕ} 0 1 = cc in absurd (omega arith)
        go true false g = refl
        go false t g = refl

  -- so by what is said of each number of them
  pub begins_by : pixel_count p ≤ count → (a : Result ℕ Refusal) → a ≡ least_ring p r → (b : Bool) (says : ℕ → Type 0)
      → ((need : ℕ) → says need → b ≡ leb need len) → MatchResult a says (λ (why : Refusal). b ≡ false)
      → b ≡ is_ready (setup_answer p r len count)
  begins_by enough (Ok need) e b says f m = f need m ∙ begins_bytes enough (Ok need) e need refl
  begins_by enough (Err why) e b says f m = m ∙ begins_not enough (Err why) e why refl

  -- where it is ready there is a cell for each pixel, and the record is the one that a setup leaves
  pub ready_enough : is_ready (setup_answer p r len count) ≡ true → leb (pixel_count p) count ≡ true
  ready_enough e = and_left cells_enough _ (and_right sides _ (sym ready_as ∙ e))

  pub ready_state : (s : State) → setup_answer p r len count ≡ Ok s → s ≡ start_record p r len
  unfolding setup_answer setup_refusal
  ready_state s f =
      cases sides
      (λ e. cases cells_enough
      (λ g. cases ranges_are_legal
      (λ h. cases room
      (λ i. yes (rw (e, g, h, i) at f))
      (λ i. no (rw (e, g, h, i) at f)))
      (λ h. no (rw (e, g, h) at f)))
      (λ g. no (rw (e, g) at f)))
      (λ e. no (rw e at f))
    where
      yes : ◌≡◌ {A = Result State Refusal} (Ok (start_record p r len)) (Ok s) → s ≡ start_record p r len
      yes k = let j : start_record p r len ≡ s = cc in sym j

      no : {why : Refusal} → ◌≡◌ {A = Result State Refusal} (Err why) (Ok s) → s ≡ start_record p r len
      no k = let z : ◌≡◌ {A = ℕ} 0 1 = cc in absurd (omega arith)

  -- and ring and cells are those; where it is not they stay
  pub ready_ring : (ring cells : List ℕ) → length ring ≡ len → length cells ≡ count → is_ready (setup_answer p r len count) ≡ true
      → (ring_begun p r ring cells ≡ start_ring p r ring) × (cells_begun p r ring cells ≡ start_cells p r cells)
  unfolding ring_begun cells_begun setup_refusal
  ready_ring ring cells l m e =
      let k : sides && (cells_enough && (ranges_are_legal && room)) ≡ true = sym ready_as ∙ e in
      let a = and_left sides _ k in
      let b = and_right sides _ k in
      let c = and_left cells_enough _ b in
      let d = and_right cells_enough _ b in
      let f = and_left ranges_are_legal _ d in
      let g = and_right ranges_are_legal _ d in
      rw (l, m, a, c, f, g) (refl, refl)

  pub refused_ring : (ring cells : List ℕ) → length ring ≡ len → length cells ≡ count → is_ready (setup_answer p r len count) ≡ false
      → (ring_begun p r ring cells ≡ ring) × (cells_begun p r ring cells ≡ cells)
  unfolding ring_begun cells_begun setup_refusal
  refused_ring ring cells l m e =
      let k : sides && (cells_enough && (ranges_are_legal && room)) ≡ false = sym ready_as ∙ e in
      rw (l, m)
      (cases sides
      (λ a. cases cells_enough
      (λ b. cases ranges_are_legal
      (λ c. (let d : room ≡ false = rw (a, b, c) at k in rw (a, b, c, d) (refl, refl)))
      (λ c. rw (a, b, c) (refl, refl)))
      (λ b. rw (a, b) (refl, refl)))
      (λ a. rw a (refl, refl)))
