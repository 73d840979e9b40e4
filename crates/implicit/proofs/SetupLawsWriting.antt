-- The first blocks queued one after the other, first counted, then written: what is left to do from the i-th on is what was to do. Assumes nothing.
use Rattle.std.specs.Prelude.{Result, Ok, Err}
use Rattle.queue.specs.declared.QueueError.{QueueError}
use Rattle.queue.specs.Queue.{code_measured}
use mathlib.Core.Path.{◌≡◌, sym, ap, ◌∙◌, subst}
use mathlib.Core.Bool.{Bool, true, false, ◌&&◌, false≢true}
use mathlib.Core.List.{List, [], ◌∷◌, ◌++◌}
use Prim.Native.Nat.{ℕ, ◌+◌, ◌*◌, ◌≤◌, ◌<◌}
use native.Mathlib.Omega.{arith}
use native.Mathlib.Numerals.{add-one}
use native.Mathlib.Nat.{add-zero, zero-add}
use lib.Dec.{leb}
use lib.ListN.{length, get_or, drop, length-append, drop_of_length-le}
use lib.Seq.{drop-cons}
use Rattle.base.proofs.Test.{and_left, and_right}
use Rattle.base.specs.Lists.{Every}
use Rattle.base.proofs.ListLaws.{every_also}
use Rattle.queue.specs.declared.Block.{Block}
use Rattle.queue.specs.declared.Last.{Last}
use Rattle.queue.specs.declared.Measured.{Measured}
use Rattle.queue.specs.Block.{starting_last, as_queued, remembered}
use Rattle.queue.specs.Code.{encode, parameters_legal, can_queue, indices_known}
use Rattle.queue.specs.Queue.{codable, measured, queue_codes}
use Rattle.queue.proofs.QueueableLaws.{encode_few}
use Rattle.queue.proofs.RoundTrip.{CanQueue, Known}
use Rattle.queue.proofs.KeptLaws.{known_after, known_start, known_test, can_test}
use Rattle.decide.specs.declared.Chosen.{Chosen}
use Rattle.implicit.specs.declared.state.Ranges.{Ranges}
use Rattle.implicit.specs.declared.first.Product.{Product}
use Rattle.implicit.specs.declared.first.Behind.{Behind}
use Rattle.implicit.specs.Setup.{first_bytes, ranges_legal}
use Rattle.implicit.specs.SetupComputed.{product_of, product_count, product_at, behind_with}
use Rattle.implicit.proofs.SetupLawsFirst.{every_at, product_list, first_is, count_is, at_is}
use Rattle.implicit.proofs.SetupLawsBlocks.{RangesHeld, FirstBlock, product_first, first_can}

-- THE BLOCKS ONE BY ONE

-- the blocks of a product from the i-th on are the i-th and those from the next on
module _ (f : Product) (n i : ℕ) (b : Block) (counts : n ≡ product_count f) (at : b ≡ product_at f i) (inside : i < n) where
  within : i < length (product_list f)
  within = omega (arith, count_is f)

  block_is : get_or (product_list f) i b ≡ b
  block_is = at_is f b i (omega arith) ∙ sym at

  pub block_here : drop i (product_list f) ≡ b ∷ drop (i + 1) (product_list f)
  block_here = drop-cons (product_list f) i b within ∙ rw (add-one i, block_is)

  pub block_has : (P : Block → Type 0) → Every P (product_list f) → P b
  block_has P h = subst P block_is (every_at P b (product_list f) i h within)

-- every block of a legal setup's product can be queued
pub product_can : (p : Chosen) (r : Ranges) (f : Product) → f ≡ product_of p r → RangesHeld r → ranges_legal p.set r ≡ true
    → Every (CanQueue p.set) (product_list f)
product_can p r f e held ok = rw e (every_also (FirstBlock p) (CanQueue p.set) (first_can p) (product_list (product_of p r)) (product_first p r held ok))

pub product_bytes : (p : Chosen) (r : Ranges) (f : Product) → f ≡ product_of p r → ranges_legal p.set r ≡ true
    → queue_codes p.set starting_last (product_list f) ≡ first_bytes p r
unfolding first_bytes
product_bytes p r f e ok = rw (e, first_is p r ok)

-- COUNTING

-- i blocks of a list are counted
pub record Measuring (set : ℕ) (bs : List Block) (i : ℕ) (k : Behind) : Type 0 where
  pub known : Known k.back
  pub few : k.used ≤ 83 * i
  pub left : k.used + length (queue_codes set k.back (drop i bs)) ≡ length (queue_codes set starting_last bs)

pub measure_start : (set : ℕ) (bs : List Block) (back : Last) → back ≡ starting_last → Measuring set bs 0 (record { back = back; used = 0 })
measure_start set bs back e = record { known = rw e known_start; few = omega arith; left = rw e (zero-add (length (queue_codes set starting_last bs))) }

pub measure_again : (set : ℕ) (bs : List Block) (i : ℕ) (k k₁ : Behind) (b : Block) → drop i bs ≡ b ∷ drop (i + 1) bs → CanQueue set b → k₁ ≡ behind_with set k b
    → Measuring set bs i k → Measuring set bs (i + 1) k₁
unfolding behind_with queue_codes
measure_again set bs i k k₁ b here can e m =
    let code : List ℕ = encode set k.back b in
    let rest : List ℕ = queue_codes set (remembered b) (drop (i + 1) bs) in
    let short : length code ≤ 83 = encode_few set k.back b (can_test set b can) (known_test k.back m.known) in
    let all : k.used + length (code ++ rest) ≡ length (queue_codes set starting_last bs) = rw here at m.left in
    rw e (record { known = known_after set b can; few = omega (arith, m.few); left = omega (arith, length-append code rest) })

pub measure_end : (set : ℕ) (bs : List Block) (i : ℕ) (k : Behind) → length bs ≤ i → Measuring set bs i k → k.used ≡ length (queue_codes set starting_last bs)
unfolding queue_codes
measure_end set bs i k h m =
    let all : k.used + length (queue_codes set k.back []) ≡ length (queue_codes set starting_last bs) = rw (drop_of_length-le bs h) at m.left in
    sym (add-zero k.used) ∙ all

-- ONE BLOCK COUNTED

abbrev count_of : Result Measured QueueError → ℕ
count_of (Ok m) = m.count
count_of (Err why) = 0

abbrev last_of : Result Measured QueueError → Last → Last
last_of (Ok m) other = m.last
last_of (Err why) other = other

abbrev is_bytes : Result Measured QueueError → Bool
is_bytes (Ok m) = true
is_bytes (Err why) = false

module _ (set : ℕ) (k : Behind) (b : Block) (can : codable set k.back b ≡ true) (is : as_queued set b ≡ b) (a : Result Measured QueueError)
    (e : a ≡ measured set k.back b) where
  bytes_are : a ≡ code_measured (length (encode set k.back b)) (remembered b)
  unfolding measured
  bytes_are = e ∙ rw (can, is)

  pub counted : (count : ℕ) (last : Last) → a ≡ code_measured count last → count ≡ length (encode set k.back b)
  counted count last g = ap count_of (sym g ∙ bytes_are)

  pub counted_short : (count : ℕ) (last : Last) → a ≡ code_measured count last → count ≤ 83
  counted_short count last g =
      rw (counted count last g)
      (encode_few set k.back b (and_left (can_queue set b) (indices_known k.back) can) (and_right (can_queue set b) (indices_known k.back) can))

  pub counted_behind : (count : ℕ) (last : Last) → a ≡ code_measured count last → record { back = last; used = k.used + count } ≡ behind_with set k b
  unfolding behind_with
  counted_behind count last g =
      let l : last ≡ remembered b = ap (λ (m : Result Measured QueueError). last_of m last) (sym g ∙ bytes_are) in
      rw (counted count last g, l)

  pub counted_not : {P : Type 0} (why : QueueError) → a ≡ Err why → P
  counted_not why g = absurd (false≢true (ap is_bytes (sym g ∙ bytes_are)))

-- THE RANGES

pub ranges_legal_as : (set : ℕ) (r : Ranges) (fine : Bool) → fine ≡ parameters_legal set r.m r.n r.theta r.t
    → (leb set 63 && fine) ≡ ranges_legal set r
unfolding ranges_legal
ranges_legal_as set r fine e = rw e
