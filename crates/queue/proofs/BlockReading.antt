-- Laws of reading a block: each parameter's answer by the tests that the code makes, and that no part takes more
-- bytes than there are. Assumes nothing.
use Rattle.std.specs.Prelude.{slice_get, Option, Some, None}
use mathlib.Core.Path.{◌≡◌, refl, ap, ◌∙◌}
use mathlib.Core.Bool.{Bool, true, false, cond, ◌&&◌}
use mathlib.Core.List.{List, [], ◌∷◌}
use Prim.Native.Nat.{ℕ, ◌+◌, ◌-◌, ◌%◌, ◌≤◌, ◌<◌}
use native.Mathlib.Omega.{arith}
use native.Mathlib.Nat.{add-zero}
use lib.Bits.{bit_xor}
use lib.Dec.{leb, ltb, eqb}
use lib.ListN.{length, get_or, take, drop, length-drop}
use lib.Seq.{drop-drop, get_or-drop}
use borrow.Author.Tests.{le-leb, lt-leb, lt-ltb, le-ltb, leb-true, ltb-true, eqb-false}
use Rattle.base.specs.Bytes.{of_big_endian}
use Rattle.std.specs.Prelude.{Result, Ok, Err}
use Rattle.refusal.specs.declared.Refusal.{Refusal}
use Rattle.small.specs.declared.Number.{Number}
use Rattle.small.specs.Small.{read_small}
use Rattle.small.proofs.Reading.{read_inside}
use Rattle.coordinate.specs.declared.Coordinate.{Coordinate}
use Rattle.interval.specs.declared.Interval.{Interval}
use Rattle.interval.specs.Bounds.{put_interval}
use Rattle.interval.specs.Answers.{answer_from_bits}
use Rattle.queue.specs.declared.Block.{Block}
use Rattle.queue.specs.declared.Last.{Last}
use Rattle.queue.specs.declared.directions.Direction.{Direction}
use Rattle.queue.specs.declared.directions.Direction.TheVariants as D
use Rattle.queue.specs.Directions.{in_use, parameters}
use Rattle.queue.specs.Block.{whole_line, is_integer, recalled, with_parameter}
use Rattle.queue.specs.Decode.{level_of, level_read, coordinate_with, coordinate_of, coordinate_read, bounds_of}
use Rattle.queue.specs.Decode.{bounds_read, used_read, parameter_read, with_place, with_y, with_x, place_read}
use Rattle.queue.specs.Decode.{with_read, add_parameter, add_parameters, add_direction, rest_read, decode}
use Rattle.queue.specs.DecodeComputed.{ends_at, parameter_along}
use Rattle.queue.proofs.DirectionLaws.{unused}
use Rattle.queue.proofs.ReadLaws.{same_read, get_none, get_some}

-- a block with another direction byte, and one that has a place alone
abbrev pub directed : Block → ℕ → Block
directed b dir = record { x = b.x; y = b.y; m = b.m; n = b.n; theta = b.theta; t = b.t; dir = dir }

abbrev place_alone : Coordinate → Coordinate → Block
place_alone x y = record { x = x; y = y; m = whole_line; n = whole_line; theta = whole_line; t = whole_line; dir = 0 }

-- ---- the answers

module _ (s : List ℕ) (at : ℕ) (integer : Bool) where
  left : length (drop at s) ≡ length s - at
  left = length-drop at s

  pub bounds_short : length s - at < 16 → None ≡ bounds_read integer (drop at s)
  unfolding bounds_read
  bounds_short h = rw (lt-leb 16 (length (drop at s)) (rw left h))

  pub bounds_some : (lower upper : ℕ) (r : Result Interval Refusal) → 16 ≤ length s - at → lower ≡ of_big_endian (take 8 (drop at s))
      → upper ≡ of_big_endian (take 8 (drop (at + 8) s))
      → r ≡ answer_from_bits lower upper integer → bounds_of r ≡ bounds_read integer (drop at s)
  unfolding bounds_read
  bounds_some lower upper r h e f g =
      rw (le-leb 16 (length (drop at s)) (rw left h), drop-drop 8 at s, ← e, ← f) (ap bounds_of g)

  module _ (last : Interval) where
    pub used_short : length s - at < 2 → None ≡ used_read integer last (drop at s)
    unfolding used_read
    used_short h = rw (lt-leb 2 (length (drop at s)) (rw left h))

    module _ (a b : ℕ) (e : Some a ≡ slice_get s at) (f : Some b ≡ slice_get s (at + 1)) where
      both : leb 2 (length (drop at s)) ≡ true
      both = le-leb 2 (length (drop at s)) (rw left (omega (arith, (get_some s (at + 1) b f).0)))

      head_bytes : eqb (get_or (drop at s) 0 0) 255 && eqb (get_or (drop at s) 1 0) 255 ≡ eqb a 255 && eqb b 255
      head_bytes =
          rw (get_or-drop at s 0 0, get_or-drop at s 1 0, add-zero at, (get_some s at a e).1, (get_some s (at + 1) b f).1)

      pub used_mark : (p : Interval) → eqb a 255 && eqb b 255 ≡ true → p ≡ put_interval last
          → Some (p, 2) ≡ used_read integer last (drop at s)
      unfolding used_read
      used_mark p g k = rw (both, head_bytes, g, k)

      pub used_other : (r : Option (Interval × ℕ)) → eqb a 255 && eqb b 255 ≡ false
          → r ≡ bounds_read integer (drop at s) → r ≡ used_read integer last (drop at s)
      unfolding used_read
      used_other r g k = rw (both, head_bytes, g, k)

-- nothing is added to what was not read
none_added : (set : ℕ) (last : Last) (s : List ℕ) (ds : List Direction) → add_parameters set last s ds None ≡ None
unfolding add_parameters add_parameter
none_added set last s [] = refl
none_added set last s (d ∷ ds) = none_added set last s ds

-- the parameter along a direction, and the block so far with it
module _ (set : ℕ) (last : Last) (s : List ℕ) (d : Direction) (at : ℕ) where
  pub along_unused : in_use set d ≡ false → Some (whole_line, at) ≡ parameter_along set last s d at
  unfolding parameter_along parameter_read
  along_unused e = rw (e, add-zero at)

  pub along_used : (r : Option (Interval × ℕ)) → in_use set d ≡ true → r ≡ used_read (is_integer d) (recalled last d) (drop at s)
      → ends_at at r ≡ parameter_along set last s d at
  unfolding parameter_along parameter_read
  along_used r e f = rw (e, f)

  pub add_none : (b : Block) (ds : List Direction) → None ≡ parameter_along set last s d at
      → None ≡ add_direction s (add_parameters set last s (d ∷ ds) (Some (b, at)))
  unfolding parameter_along add_parameters add_parameter add_direction
  add_none b ds e = go (parameter_read (in_use set d) (is_integer d) (recalled last d) (drop at s)) e
    where
      go : (r : Option (Interval × ℕ)) → None ≡ ends_at at r → None ≡ add_direction s (add_parameters set last s ds (with_read b d at r))
      go None e = rw (none_added set last s ds)
      go (Some (p, n)) e = cc

  pub add_some : (b : Block) (ds : List Direction) (p : Interval) (end : ℕ) → Some (p, end) ≡ parameter_along set last s d at
      → add_parameters set last s ds (Some (with_parameter b d p, end)) ≡ add_parameters set last s (d ∷ ds) (Some (b, at))
  unfolding parameter_along add_parameters add_parameter
  add_some b ds p end e = ap (add_parameters set last s ds) (go (parameter_read (in_use set d) (is_integer d) (recalled last d) (drop at s)) e)
    where
      go : (r : Option (Interval × ℕ)) → Some (p, end) ≡ ends_at at r → Some (with_parameter b d p, end) ≡ with_read b d at r
      go None e = cc
      go (Some (q, n)) e =
          let (f, g) = same_read (p, end) (q, at + n) e in rw (f, g)

-- the rest of a block with these parameters to come, and the parameters read one after the other
abbrev pub rest : ℕ → Last → List ℕ → List Direction → Block → ℕ → Option (Block × ℕ)
rest set last s ds b at = add_direction s (add_parameters set last s ds (Some (b, at)))

abbrev undirected : Coordinate → Coordinate → Interval → Interval → Interval → Interval → Block
undirected x y m n theta t = record { x = x; y = y; m = m; n = n; theta = theta; t = t; dir = 0 }

module _ (set : ℕ) (last : Last) (s : List ℕ) (x y : Coordinate) (at : ℕ) where
  pub made_m : {m : Interval} {e₁ : ℕ} → Some (m, e₁) ≡ parameter_along set last s D.M at
      → rest set last s (D.N ∷ D.Theta ∷ D.T ∷ []) (undirected x y m whole_line whole_line whole_line) e₁ ≡ rest_read set last s (with_place x y at)
  made_m {m} {e₁} f = ap (add_direction s) (add_some set last s D.M at (place_alone x y) (D.N ∷ D.Theta ∷ D.T ∷ []) m e₁ f)

  pub made_n : {m n : Interval} {e₁ e₂ : ℕ} → Some (m, e₁) ≡ parameter_along set last s D.M at
      → Some (n, e₂) ≡ parameter_along set last s D.N e₁
      → rest set last s (D.Theta ∷ D.T ∷ []) (undirected x y m n whole_line whole_line) e₂ ≡ rest_read set last s (with_place x y at)
  made_n {m} {n} {e₁} {e₂} f g =
      ap (add_direction s) (add_some set last s D.N e₁ (undirected x y m whole_line whole_line whole_line) (D.Theta ∷ D.T ∷ []) n e₂ g)
      ∙ made_m f

  pub made_theta : {m n theta : Interval} {e₁ e₂ e₃ : ℕ} → Some (m, e₁) ≡ parameter_along set last s D.M at
      → Some (n, e₂) ≡ parameter_along set last s D.N e₁ → Some (theta, e₃) ≡ parameter_along set last s D.Theta e₂
      → rest set last s (D.T ∷ []) (undirected x y m n theta whole_line) e₃ ≡ rest_read set last s (with_place x y at)
  made_theta {m} {n} {theta} {e₁} {e₂} {e₃} f g h =
      ap (add_direction s) (add_some set last s D.Theta e₂ (undirected x y m n whole_line whole_line) (D.T ∷ []) theta e₃ h) ∙ made_n f g

  pub made_t : {m n theta t : Interval} {e₁ e₂ e₃ e₄ : ℕ} → Some (m, e₁) ≡ parameter_along set last s D.M at
      → Some (n, e₂) ≡ parameter_along set last s D.N e₁ → Some (theta, e₃) ≡ parameter_along set last s D.Theta e₂
      → Some (t, e₄) ≡ parameter_along set last s D.T e₃
      → add_direction s (Some (undirected x y m n theta t, e₄)) ≡ rest_read set last s (with_place x y at)
  unfolding add_parameters
  made_t {m} {n} {theta} {t} {e₁} {e₂} {e₃} {e₄} f g h k =
      ap (add_direction s) (add_some set last s D.T e₃ (undirected x y m n theta whole_line) [] t e₄ k) ∙ made_theta f g h

-- where the set has no parameter, the direction follows at once
pub plain_rest : (set : ℕ) (last : Last) (s : List ℕ) (x y : Coordinate) (at : ℕ) → set % 16 ≡ 0
    → add_direction s (Some (place_alone x y, at)) ≡ rest_read set last s (with_place x y at)
unfolding add_parameters add_parameter parameter_read
plain_rest set last s x y at h = let (m, n, theta, t) = unused set h in simp (m, n, theta, t, add-zero)

-- x and y
module _ (set : ℕ) (last : Last) (s : List ℕ) where
  pub place_none : None ≡ coordinate_read last.x s → None ≡ decode set last s
  unfolding decode place_read with_x add_parameters add_parameter add_direction
  place_none e = rw (← e)

  pub place_some : (x : Coordinate) (count : ℕ) → Some (x, count) ≡ coordinate_read last.x s
      → rest_read set last s (with_y x count (coordinate_read last.y (drop count s))) ≡ decode set last s
  unfolding decode place_read with_x
  place_some x count e = rw (← e)

  pub y_none : (x : Coordinate) (at : ℕ) (r : Option (Coordinate × ℕ)) → r ≡ None
      → None ≡ rest_read set last s (with_y x at r)
  unfolding add_parameters add_parameter add_direction
  y_none x at r e = rw e

-- the direction byte
module _ (s : List ℕ) (b : Block) (at : ℕ) where
  pub direction_none : None ≡ slice_get s at → None ≡ add_direction s (Some (b, at))
  unfolding add_direction
  direction_none e = rw (le-ltb at (length s) (get_none s at e))

  pub direction_some : (byte : ℕ) → Some byte ≡ slice_get s at → Some (directed b byte, at + 1) ≡ add_direction s (Some (b, at))
  unfolding add_direction
  direction_some byte e = let (h, f) = get_some s at byte e in rw (lt-ltb at (length s) h, f)

-- ---- no part takes more bytes than there are

-- what was read lies inside the bytes
abbrev pub Inside : List ℕ → Option (Block × ℕ) → Type 0
Inside s (Some (b, count)) = count ≤ length s
Inside s None = Unit {0}

pub inside_read : (s : List ℕ) (r : Option (Block × ℕ)) (b : Block) (count : ℕ) → Inside s r → r ≡ Some (b, count)
    → count ≤ length s
inside_read s r b count h e = rw e at h

abbrev InC : List ℕ → Option (Coordinate × ℕ) → Type 0
InC s (Some (c, count)) = count ≤ length s
InC s None = Unit {0}

coordinate_in : (last : ℕ) (s : List ℕ) → InC s (coordinate_read last s)
unfolding coordinate_read coordinate_of level_read
coordinate_in last s = go (read_small s) refl
  where
    level : (x n : ℕ) → n ≤ length s → (e : Bool) → eqb (length (drop n s)) 0 ≡ e → (l : Option ℕ)
        → InC s (coordinate_with (bit_xor last x) n (cond e None l))
    level x n h true e l = tt
    level x n h false e None = tt
    level x n h false e (Some k) = omega (arith, eqb-false (length (drop n s)) 0 e, length-drop n s)

    go : (r : Result Number Refusal) → read_small s ≡ r → InC s (coordinate_of last s r)
    go (Ok n) e =
        level n.x n.count (read_inside s n e) (eqb (length (drop n.count s)) 0) refl (level_of (get_or (drop n.count s) 0 0))
    go (Err w) e = tt

pub coordinate_inside : (last : ℕ) (s : List ℕ) (c : Coordinate) (count : ℕ) → Some (c, count) ≡ coordinate_read last s
    → count ≤ length s
coordinate_inside last s c count e = rw (← e) at (coordinate_in last s)

abbrev InP : List ℕ → Option (Interval × ℕ) → Type 0
InP s (Some (p, count)) = count ≤ length s
InP s None = Unit {0}

parameter_in : (used integer : Bool) (last : Interval) (s : List ℕ) → InP s (parameter_read used integer last s)
unfolding parameter_read used_read bounds_read
parameter_in false integer last s = omega arith
parameter_in true integer last s = two (leb 2 (length s)) refl (eqb (get_or s 0 0) 255 && eqb (get_or s 1 0) 255)
  where
    whole : (r : Result Interval Refusal) (t : Bool) → leb 16 (length s) ≡ t → InP s (cond t (bounds_of r) None)
    whole (Ok p) true e = leb-true 16 (length s) e
    whole (Err w) true e = tt
    whole r false e = tt

    two : (t : Bool) → leb 2 (length s) ≡ t → (m : Bool)
        → InP s (cond t (cond m (Some (put_interval last, 2)) (bounds_read integer s)) None)
    two true e true = leb-true 2 (length s) e
    two true e false =
        whole (answer_from_bits (of_big_endian (take 8 s)) (of_big_endian (take 8 (drop 8 s))) integer) (leb 16 (length s)) refl
    two false e m = tt

pub used_inside : (integer : Bool) (last : Interval) (s : List ℕ) (p : Interval) (count : ℕ)
    → Some (p, count) ≡ used_read integer last s → count ≤ length s
unfolding parameter_read
used_inside integer last s p count e = rw (← e) at (parameter_in true integer last s)

-- so a parameter that begins inside the bytes ends there
pub along_inside : (set : ℕ) (last : Last) (s : List ℕ) (d : Direction) (at : ℕ) (p : Interval) (end : ℕ) → at ≤ length s
    → Some (p, end) ≡ parameter_along set last s d at → end ≤ length s
unfolding parameter_along
along_inside set last s d at p end h e =
    go (parameter_read (in_use set d) (is_integer d) (recalled last d) (drop at s))
    (parameter_in (in_use set d) (is_integer d) (recalled last d) (drop at s)) e
  where
    go : (r : Option (Interval × ℕ)) → InP (drop at s) r → Some (p, end) ≡ ends_at at r → end ≤ length s
    go (Some (q, n)) i e = omega (arith, i, (same_read (p, end) (q, at + n) e).1, length-drop at s)
    go None i e = cc

direction_inside : (s : List ℕ) (r : Option (Block × ℕ)) → Inside s (add_direction s r)
unfolding add_direction
direction_inside s (Some (b, n)) = go (ltb n (length s)) refl
  where
    go : (t : Bool) → ltb n (length s) ≡ t
        → Inside s (cond t (Some (directed b (get_or s n 0), n + 1)) None)
    go true e = omega (arith, ltb-true n (length s) e)
    go false e = tt
direction_inside s None = tt

pub decode_inside : (set : ℕ) (last : Last) (s : List ℕ) → Inside s (decode set last s)
unfolding decode
decode_inside set last s = direction_inside s (add_parameters set last s parameters (place_read last s))

-- and a block takes a byte, its direction's at least
abbrev TakesSome : Option (Block × ℕ) → Type 0
TakesSome (Some (b, count)) = 0 < count
TakesSome None = Unit {0}

direction_takes : (s : List ℕ) (r : Option (Block × ℕ)) → TakesSome (add_direction s r)
unfolding add_direction
direction_takes s (Some (b, n)) = go (ltb n (length s))
  where
    go : (t : Bool) → TakesSome (cond t (Some (directed b (get_or s n 0), n + 1)) None)
    go true = omega arith
    go false = tt
direction_takes s None = tt

decode_takes : (set : ℕ) (last : Last) (s : List ℕ) → TakesSome (decode set last s)
unfolding decode
decode_takes set last s = direction_takes s (add_parameters set last s parameters (place_read last s))

-- so a block read took one byte or more, and none that is not there
pub read_takes : (set : ℕ) (last : Last) (s : List ℕ) (b : Block) (count : ℕ) → decode set last s ≡ Some (b, count)
    → (0 < count) × (count ≤ length s)
read_takes set last s b count e =
    (rw e at (decode_takes set last s), inside_read s (decode set last s) b count (decode_inside set last s) e)

-- and no bytes are no block
pub none_decodes : (set : ℕ) (last : Last) → decode set last [] ≡ None
none_decodes set last = go (decode set last []) refl
  where
    go : (r : Option (Block × ℕ)) → decode set last [] ≡ r → r ≡ None
    go (Some (b, n)) e = absurd (omega (arith, read_takes set last [] b n e))
    go None e = refl
