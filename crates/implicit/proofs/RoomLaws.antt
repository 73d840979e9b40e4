-- Laws of room: the least ring is least, the ring that is enough beside it, and a move by its tests. Assumes nothing.
use Rattle.queue.specs.declared.QueueError.{QueueError}
use Rattle.queue.specs.declared.QueueError.TheVariants as Q
use Rattle.queue.specs.Answers.{refusal_of}
use mathlib.Core.Path.{◌≡◌, refl, sym, ap}
use mathlib.Core.Bool.{Bool, true, false, cond, ◌&&◌}
use mathlib.Core.List.{List}
use Prim.Native.Nat.{ℕ, ◌+◌, ◌*◌, ◌^◌, ◌≤◌, ◌<◌}
use native.Mathlib.Omega.{arith}
use native.Mathlib.Nat.{add-zero, zero-mul, mul-le-mul_left}
use lib.Dec.{leb, ltb}
use lib.ListN.{length}
use borrow.Author.Tests.{le-leb, lt-ltb, eq-eqb, ne_eqb}
use Rattle.std.specs.Prelude.{Result, Ok, Err}
use Rattle.base.proofs.Test.{and_both}
use Rattle.refusal.specs.declared.Refusal.{Refusal}
use Rattle.refusal.specs.declared.Refusal.TheVariants as R
use Rattle.queue.specs.Directions.{used_of, parameters}
use Rattle.queue.specs.Ring.{content, fits_ring, stored}
use Rattle.queue.specs.Queue.{copied, if_copied, copied_ring}
use Rattle.decide.specs.declared.Chosen.{Chosen}
use Rattle.decide.specs.Damage.{legal_side}
use Rattle.implicit.specs.declared.state.State.{State}
use Rattle.implicit.specs.declared.state.Ranges.{Ranges}
use Rattle.implicit.specs.declared.state.Refused.{Refused}
use Rattle.implicit.specs.Record.{pixel_count, sound_record}
use Rattle.implicit.specs.Setup.{start_level, root_block, first_blocks, ranges_legal, first_bytes, setup_refusal, least_ring, cleared}
use Rattle.implicit.specs.Step.{world_of}
use Rattle.implicit.specs.Room.{parameter_count, step_growth, enough_bytes, enough_ring}
use Rattle.implicit.specs.Move.{not_moved, moved, moved_record, moved_world, move_of, move_answer, other_after, MovesAs}
use Rattle.implicit.specs.Answers.{needed_bytes}
use Rattle.implicit.proofs.RecordLaws.{sound_record_lem}
use Rattle.implicit.proofs.SetupLawsRefusal.{needs_first}

-- THE LEAST RING

-- the reserved bytes play no part in the first blocks
pub first_cleared : (p : Chosen) (r : Ranges) → first_bytes (cleared p) r ≡ first_bytes p r
unfolding first_bytes first_blocks root_block start_level
first_cleared p r = refl

-- a setup with enough cells begins exactly if its ring is no shorter, and is else refused for room
pub least_exactly : (p : Chosen) (r : Ranges) (len count n : ℕ) → least_ring p r ≡ Ok n → pixel_count p ≤ count
    → setup_refusal (cleared p) r len count ≡ cond (leb n len) (Ok tt) (Err R.Room)
unfolding least_ring setup_refusal
least_exactly p r len count n e cells =
    let (sides, e₁) = needs_first (legal_side p.width && legal_side p.height) _ n R.Side e in
    let (ranges, e₂) = needs_first (ranges_legal p.set r) _ n R.Parameter e₁ in
    let total : length (first_bytes p r) ≡ n = ap needed_bytes e₂ in
    rw (sides, le-leb (pixel_count p) count cells, ranges, first_cleared p r, total)

-- THE RING THAT IS ENOUGH

module _ (p : Chosen) (r : Ranges) (n : ℕ) where
  -- where there is a least ring it is that and what the steps add
  pub enough_bytes_lem : (first growth : ℕ) → least_ring p r ≡ Ok first → growth ≡ step_growth p.set → Ok (first + n * growth) ≡ enough_ring p r n
  unfolding least_ring enough_ring enough_bytes
  enough_bytes_lem first growth e g =
      let (sides, e₁) = needs_first (legal_side p.width && legal_side p.height) _ first R.Side e in
      let (ranges, e₂) = needs_first (ranges_legal p.set r) _ first R.Parameter e₁ in
      let total : length (first_bytes p r) ≡ first = ap needed_bytes e₂ in
      rw (sides, ranges, total, g)

  -- and where there is none it is refused by the same
  pub enough_refused : (why : Refusal) → least_ring p r ≡ Err why → Err why ≡ enough_ring p r n
  unfolding least_ring enough_ring
  enough_refused why e = go (legal_side p.width && legal_side p.height) (ranges_legal p.set r) (length (first_bytes p r)) (enough_bytes p r n) e
    where
      go : (t u : Bool) (a b : ℕ) → cond t (cond u (Ok a) (Err R.Parameter)) (Err R.Side) ≡ Err why
          → Err why ≡ cond t (cond u (Ok b) (Err R.Parameter)) (Err R.Side)
      go true true a b h = absurd (let z : ◌≡◌ {A = ℕ} 0 1 = cc in omega arith)
      go true false a b h = sym h
      go false u a b h = sym h

  -- it is no shorter than the least
  pub enough_least : needed_bytes (least_ring p r) ≤ needed_bytes (enough_ring p r n)
  unfolding least_ring enough_ring enough_bytes
  enough_least = go (legal_side p.width && legal_side p.height) (ranges_legal p.set r) (length (first_bytes p r)) (n * step_growth p.set)
    where
      go : (t u : Bool) (a m : ℕ) → needed_bytes (cond t (cond u (Ok a) (Err R.Parameter)) (Err R.Side))
          ≤ needed_bytes (cond t (cond u (Ok (a + m)) (Err R.Parameter)) (Err R.Side))
      go true true a m = omega arith
      go true false a m = omega arith
      go false u a m = omega arith

-- and for no steps it is the least
pub enough_none : (p : Chosen) (r : Ranges) → enough_ring p r 0 ≡ least_ring p r
unfolding least_ring enough_ring enough_bytes
enough_none p r = rw (zero-mul (step_growth p.set), add-zero (length (first_bytes p r)))

-- the bytes for 2^32 steps fit 64 bits
pub steps_most : (n growth : ℕ) → n < 2 ^ 32 → growth ≤ 122 → n * growth ≤ 2 ^ 32 * 122
steps_most n growth h k = omega (arith, mul-le-mul_left {m = growth} {n = 122} n k)

-- what a step adds, by the count of parameters
pub growth_none : (set count : ℕ) → count ≡ length (used_of set parameters) → count ≡ 0 → 27 ≡ step_growth set
unfolding step_growth parameter_count
growth_none set count e z = rw (← e, eq-eqb count 0 z)

pub growth_some : (set count : ℕ) → count ≡ length (used_of set parameters) → (count ≡ 0 → ⊥) → 50 + 18 * count ≡ step_growth set
unfolding step_growth parameter_count
growth_some set count e z = rw (← e, ne_eqb count 0 z)

-- THE MOVE

module _ (s : State) (ring other : List ℕ) where
  -- a damaged record is refused
  pub move_damaged : sound_record (length ring) s ≡ false → MovesAs s ring other (Err (record { why = R.Damaged; state = s })) other
  unfolding move_of
  move_damaged h cells = rw h (refl, refl)

  -- else the copy's answer is the move's
  abbrev moved_by : Result (Unit {0}) QueueError → Result State Refused
  moved_by (Ok done) = Ok (moved_record s (length other))
  moved_by (Err error) = Err (record { why = refusal_of error; state = s })

  module _ (h : sound_record (length ring) s ≡ true) where
    pub fits_sound : fits_ring (length ring) s.head s.used ≡ true
    fits_sound =
        let f = sound_record_lem (length ring) s h in
        and_both (ltb s.head (length ring)) (leb s.used (length ring))
        (lt-ltb s.head (length ring) f.head) (le-leb s.used (length ring) f.used)

    module _ (a : Result (Unit {0}) QueueError) (other₁ : List ℕ) (e : a ≡ copied (length ring) s.head s.used (length other))
        (f : other₁ ≡ copied_ring ring s.head s.used other) where
      pub move_by : MovesAs s ring other (moved_by a) other₁
      unfolding copied copied_ring move_of moved_world
      move_by cells = rw (e, f, h, fits_sound) (go (fits_ring (length other) 0 s.used))
        where
          go : (g : Bool)
              → (moved_by (cond g (Ok tt) (Err Q.NoRoom)) ≡ move_answer s (cond g (moved (moved_world (world_of s ring cells) other)) (not_moved R.Room)))
              × (if_copied (cond g (Ok tt) (Err Q.NoRoom)) (stored other 0 (content ring s.head s.used)) other
              ≡ other_after other (cond g (moved (moved_world (world_of s ring cells) other)) (not_moved R.Room)))
          go true = (refl, refl)
          go false = (refl, refl)
