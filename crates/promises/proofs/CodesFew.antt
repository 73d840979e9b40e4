-- How many bytes a block's code has, at least and at most, by the number of parameters in use; and how few the codes of siblings have. Assumes nothing.
use mathlib.Core.Path.{◌≡◌, sym, ap, ◌∙◌}
use mathlib.Core.Bool.{Bool, true, false, not, cond, ◌&&◌, ◌||◌}
use mathlib.Core.List.{List, [], ◌∷◌}
use Prim.Native.Nat.{ℕ, ◌+◌, ◌*◌, ◌/◌, ◌^◌, ◌≤◌, ◌<◌}
use native.Mathlib.Omega.{arith}
use lib.Bits.{bit_xor, xor_lt, xor_shr, xor_self}
use lib.Dec.{eqb, lit≤}
use lib.ListN.{length, length-append}
use lib.Ieee.{inf, le, lt, eq}
use borrow.Author.Tests.{eqb-false}
use Rattle.base.proofs.Test.{by_test, and_left, and_both}
use Rattle.base.specs.Lists.{Every}
use Rattle.small.proofs.Writing.{length_upto, length_some}
use Rattle.coordinate.specs.declared.Coordinate.{Coordinate}
use Rattle.interval.specs.declared.Interval.{Interval}
use Rattle.interval.specs.Bounds.{legal_bounds, legal_interval, whole_bound, same_interval}
use Rattle.interval.proofs.Sameness.{eq_self_low, eq_self_high}
use Rattle.queue.specs.declared.Block.{Block}
use Rattle.queue.specs.declared.Last.{Last}
use Rattle.queue.specs.declared.directions.Direction.{Direction}
use Rattle.queue.specs.declared.directions.Direction.TheVariants as D
use Rattle.queue.specs.Directions.{in_use, used_of, parameters}
use Rattle.queue.specs.Block.{is_integer, parameter_of, recalled, remembered}
use Rattle.queue.specs.Code.{coordinate_code, bounds_code, parameter_code, parameters_code, encode}
use Rattle.queue.specs.Queue.{queue_codes}
use Rattle.queue.proofs.WriteLaws.{coordinate_length, bounds_length, encode_length}
use Rattle.queue.proofs.LengthLaws.{place_length, parameters_length}
use Rattle.queue.proofs.KeptLaws.{fine_legal, recalled_is}
use Rattle.queue.proofs.RoundTrip.{CanQueue}
use Rattle.implicit.specs.Room.{parameter_count}

-- A COORDINATE: 2 to 8 bytes, and 2 behind an index with the same half

pub coordinate_most : (last : ℕ) (c : Coordinate) → last < 2 ^ 47 → c.index < 2 ^ 47 → length (coordinate_code last c) ≤ 8
coordinate_most last c h k =
    let x = xor_lt 47 c.index last k h in
    omega (arith, coordinate_length last c, length_upto (bit_xor c.index last) 7 (lit≤ tt) (lit≤ tt) (omega (arith, x)))

pub coordinate_least : (last : ℕ) (c : Coordinate) → last < 2 ^ 47 → c.index < 2 ^ 47 → 2 ≤ length (coordinate_code last c)
coordinate_least last c h k =
    let x = xor_lt 47 c.index last k h in
    omega (arith, coordinate_length last c, length_some (bit_xor c.index last) (omega (arith, x)))

-- of two indices with the same half the xor is 0 or 1
xor_near : (a b : ℕ) → a / 2 ≡ b / 2 → bit_xor a b < 2
xor_near a b e =
    let s : bit_xor a b / 2 ≡ bit_xor (a / 2) (b / 2) = xor_shr a b 1 in
    let z : bit_xor (a / 2) (b / 2) ≡ 0 = rw e (xor_self (b / 2)) in
    omega arith

pub coordinate_near : (last : ℕ) (c : Coordinate) → c.index / 2 ≡ last / 2 → length (coordinate_code last c) ≤ 2
coordinate_near last c e =
    let x = xor_near c.index last e in
    omega (arith, coordinate_length last c, length_upto (bit_xor c.index last) 1 (lit≤ tt) (lit≤ tt) (omega (arith, x)))

-- A PARAMETER: 2 to 16 bytes if it is used, and 2 where it is the remembered one

abbrev IsBetween : ℕ → ℕ → ℕ → Type 0
IsBetween low high n = (low ≤ n) × (n ≤ high)

parameter_size : (used : Bool) (last p : Interval) → IsBetween (cond used 2 0) (cond used 16 0) (length (parameter_code used last p))
unfolding parameter_code
parameter_size used last p = go used (same_interval p last)
  where
    go : (u s : Bool) → IsBetween (cond u 2 0) (cond u 16 0) (length (cond u (cond s (255 ∷ 255 ∷ []) (bounds_code p)) []))
    go true true = (omega arith, omega arith)
    go true false = (omega (arith, bounds_length p), omega (arith, bounds_length p))
    go false s = (omega arith, omega arith)

again_size : (used : Bool) (last p : Interval) → p ≡ last → same_interval p p ≡ true → length (parameter_code used last p) ≤ cond used 2 0
unfolding parameter_code
again_size true last p e h = rw (← e, h) (omega arith)
again_size false last p e h = omega arith

other_size : (used : Bool) (last p : Interval) → length (parameter_code used last p) ≤ cond used 2 0 + 14
other_size used last p = go used (parameter_size used last p).1
  where
    go : (u : Bool) → length (parameter_code used last p) ≤ cond u 16 0 → length (parameter_code used last p) ≤ cond u 2 0 + 14
    go true h = omega arith
    go false h = omega arith

-- ALL PARAMETERS

-- k bytes for each that is used
used_one : (set k : ℕ) (d : Direction) (ds : List Direction) → cond (in_use set d) k 0 + k * length (used_of set ds) ≡ k * length (used_of set (d ∷ ds))
unfolding used_of
used_one set k d ds =
    by_test (λ n. n + k * length (used_of set ds) ≡ k * length (cond (in_use set d) (d ∷ used_of set ds) (used_of set ds))) (in_use set d) k 0
    (λ e. rw e (omega arith)) (λ e. rw e (omega arith))

used_sum : (set k : ℕ)
    → cond (in_use set D.M) k 0 + cond (in_use set D.N) k 0 + cond (in_use set D.Theta) k 0 + cond (in_use set D.T) k 0 ≡ k * parameter_count set
unfolding parameter_count
used_sum set k =
    let m = used_one set k D.M (D.N ∷ D.Theta ∷ D.T ∷ []) in
    let n = used_one set k D.N (D.Theta ∷ D.T ∷ []) in
    let o = used_one set k D.Theta (D.T ∷ []) in
    let t = used_one set k D.T [] in
    let z : k * length (used_of set []) ≡ 0 = unfold used_of in omega arith in
    omega (arith, m, n, o, t, z)

module _ (set : ℕ) (last : Last) (b : Block) where
  size : (d : Direction)
      → IsBetween (cond (in_use set d) 2 0) (cond (in_use set d) 16 0) (length (parameter_code (in_use set d) (recalled last d) (parameter_of b d)))
  size d = parameter_size (in_use set d) (recalled last d) (parameter_of b d)

  parameters_least : 2 * parameter_count set ≤ length (parameters_code set last b parameters)
  parameters_least = omega (arith, parameters_length set last b, used_sum set 2, (size D.M).0, (size D.N).0, (size D.Theta).0, (size D.T).0)

  parameters_most : length (parameters_code set last b parameters) ≤ 16 * parameter_count set
  parameters_most = omega (arith, parameters_length set last b, used_sum set 16, (size D.M).1, (size D.N).1, (size D.Theta).1, (size D.T).1)

-- there are four
pub counts_four : (set : ℕ) → parameter_count set ≤ 4
counts_four set = omega (arith, used_sum set 1, few (in_use set D.M), few (in_use set D.N), few (in_use set D.Theta), few (in_use set D.T))
  where
    few : (u : Bool) → cond u 1 0 ≤ 1
    few true = omega arith
    few false = omega arith

-- a parameter that is cut is used
abbrev pub needs : Direction → ℕ
needs D.XY = 0
needs D.M = 1
needs D.N = 1
needs D.Theta = 1
needs D.T = 1

pub counts_some : (set : ℕ) (d : Direction) → in_use set d ≡ true → needs d ≤ parameter_count set
counts_some set D.XY u = omega arith
counts_some set D.M u = let t = rw u at (used_sum set 1) in omega (arith, t)
counts_some set D.N u = let t = rw u at (used_sum set 1) in omega (arith, t)
counts_some set D.Theta u = let t = rw u at (used_sum set 1) in omega (arith, t)
counts_some set D.T u = let t = rw u at (used_sum set 1) in omega (arith, t)

-- A BLOCK'S CODE

-- what is remembered has indices as they may be
abbrev pub Known47 : Last → Type 0
Known47 last = (last.x < 2 ^ 47) × (last.y < 2 ^ 47)

module _ (set : ℕ) (last : Last) (b : Block) (k : Known47 last) (h : CanQueue set b) where
  pub code_least : 5 + 2 * parameter_count set ≤ length (encode set last b)
  code_least =
      let x = coordinate_least last.x b.x k.0 h.x.bound in
      let y = coordinate_least last.y b.y k.1 h.y.bound in
      omega (arith, encode_length set last b, place_length last b, x, y, parameters_least set last b)

  pub code_most : length (encode set last b) ≤ 17 + 16 * parameter_count set
  code_most =
      let x = coordinate_most last.x b.x k.0 h.x.bound in
      let y = coordinate_most last.y b.y k.1 h.y.bound in
      omega (arith, encode_length set last b, place_length last b, x, y, parameters_most set last b)

-- A SIBLING: its indices have the halves i and j, and it has b's parameters, but along d

pub record Sibling (i j : ℕ) (d : Direction) (b c : Block) : Type 0 where
  pub x : c.x.index / 2 ≡ i
  pub y : c.y.index / 2 ≡ j
  pub same : (e : Direction) → ¬ (e ≡ d) → parameter_of c e ≡ parameter_of b e

-- a direction's place in document 01's order
abbrev pub place_of_block : Direction → ℕ
place_of_block D.XY = 0
place_of_block D.M = 1
place_of_block D.N = 2
place_of_block D.Theta = 3
place_of_block D.T = 4

-- the bytes that a sibling may take more along e, where d was cut, and in all
abbrev more : Direction → Direction → ℕ
more d e = cond (eqb (place_of_block e) (place_of_block d)) 14 0

abbrev pub extra : Direction → ℕ
extra d = more d D.M + more d D.N + more d D.Theta + more d D.T

-- a legal interval is the same as itself
same_self : (integer : Bool) (p : Interval) → legal_interval p integer ≡ true → same_interval p p ≡ true
unfolding same_interval legal_interval
same_self integer p h =
    let bounds = and_left (legal_bounds p.lower p.upper) (not integer || (whole_bound p.lower && whole_bound p.upper)) h in
    let below = and_left (le p.lower p.upper && lt p.lower (inf false)) (lt (inf true) p.upper) bounds in
    let l = and_left (le p.lower p.upper) (lt p.lower (inf false)) below in
    and_both (eq p.lower p.lower) (eq p.upper p.upper) (eq_self_low p.lower p.upper l) (eq_self_high p.lower p.upper l)

module _ (set i j : ℕ) (d : Direction) (p a c : Block) (s : Sibling i j d p a) (t : Sibling i j d p c) (h : CanQueue set c) where
  -- c's parameter along e, behind a: one that was not cut is the remembered one
  abbrev behind : Direction → ℕ
  behind e = length (parameter_code (in_use set e) (recalled (remembered a) e) (parameter_of c e))

  parameter_behind : (e : Direction) → behind e ≤ cond (in_use set e) 2 0 + more d e
  parameter_behind e =
      let last = recalled (remembered a) e in
      by_test (λ n. behind e ≤ cond (in_use set e) 2 0 + n) (eqb (place_of_block e) (place_of_block d)) 14 0
      (λ f. other_size (in_use set e) last (parameter_of c e))
      (λ f. (let apart : ¬ (e ≡ d) = (λ g. eqb-false (place_of_block e) (place_of_block d) f (ap place_of_block g)) in
      let one : parameter_of c e ≡ last = t.same e apart ∙ sym (s.same e apart) ∙ sym (recalled_is a e) in
      let legal = same_self (is_integer e) (parameter_of c e) (fine_legal (in_use set e) (is_integer e) (parameter_of c e) (h.fine e)) in
      omega (arith, again_size (in_use set e) last (parameter_of c e) one legal)))

  code_behind : length (encode set (remembered a) c) ≤ 5 + 2 * parameter_count set + extra d
  unfolding remembered
  code_behind =
      let x = coordinate_near a.x.index c.x (t.x ∙ sym s.x) in
      let y = coordinate_near a.y.index c.y (t.y ∙ sym s.y) in
      omega (
        arith,
        encode_length set (remembered a) c,
        place_length (remembered a) c,
        x,
        y,
        parameters_length set (remembered a) c,
        used_sum set 2,
        parameter_behind D.M,
        parameter_behind D.N,
        parameter_behind D.Theta,
        parameter_behind D.T,
      )

codes_cons : (set : ℕ) (last : Last) (b : Block) (q : List Block)
    → length (queue_codes set last (b ∷ q)) ≡ length (encode set last b) + length (queue_codes set (remembered b) q)
unfolding queue_codes
codes_cons set last b q = length-append (encode set last b) (queue_codes set (remembered b) q)

module _ (set i j : ℕ) (d : Direction) (p : Block) where
  codes_behind : (q : List Block) (a : Block) → Sibling i j d p a → Every (Sibling i j d p) q → Every (CanQueue set) q
      → length (queue_codes set (remembered a) q) ≤ length q * (5 + 2 * parameter_count set + extra d)
  codes_behind [] a s e f = unfold queue_codes in omega arith
  codes_behind (c ∷ q) a s e f =
      omega (arith, codes_cons set (remembered a) c q, code_behind set i j d p a c s e.0 f.0, codes_behind q c e.0 e.1 f.1)

  -- the first is coded like any block, the others behind it in fewer bytes
  pub siblings_few : (c : Block) (q : List Block) (last : Last) → Known47 last → Every (Sibling i j d p) (c ∷ q) → Every (CanQueue set) (c ∷ q)
      → length (queue_codes set last (c ∷ q)) ≤ 17 + 16 * parameter_count set + length q * (5 + 2 * parameter_count set + extra d)
  siblings_few c q last k e f =
      omega (arith, codes_cons set last c q, code_most set last c k f.0, codes_behind q c e.0 e.1 f.1)
