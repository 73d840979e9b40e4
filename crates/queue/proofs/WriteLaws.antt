-- Laws of writing a code into a buffer: stores one after another, the bytes of a number in either order, and how long each
-- part is. Assumes nothing.
use Rattle.std.specs.Int.{w64, to_be_bytes}
use Rattle.std.proofs.Math.Nat.{div-div-eq-div-mul}
use mathlib.Core.Path.{◌≡◌, refl, sym, ap, ◌∙◌}
use mathlib.Core.Bool.{Bool, true, false, not, cond, true≢false, false≢true}
use mathlib.Core.List.{List, [], ◌∷◌, ◌++◌, append_assoc}
use Prim.Native.Nat.{ℕ, suc, ◌+◌, ◌-◌, ◌*◌, ◌/◌, ◌%◌, ◌^◌, ◌≤◌, ◌<◌}
use native.Mathlib.Omega.{arith}
use native.Mathlib.Nat.{add-zero, zero-add}
use native.Mathlib.Numerals.{add-one}
use lib.Bits.{bit_xor, xor_lt}
use lib.Ieee.{binary64, to_bits}
use lib.ListN.{length, take, drop, set, length-append}
use lib.Seq.{sets, sets-eq, set_comm, take_at, take-suc-set, drop-drop}
use borrow.Rule.Slice.PartMut.{put_mid}
use Rattle.base.specs.Bytes.{little_endian, big_endian}
use Rattle.base.proofs.BytesLaws.{length_big}
use Rattle.std.specs.Prelude.{Ok}
use Rattle.small.specs.declared.Code.{Code}
use Rattle.small.specs.Small.{code_of, small_code}
use Rattle.small.proofs.Writing.{code_stored, length_few}
use Rattle.coordinate.specs.declared.Coordinate.{Coordinate}
use Rattle.interval.specs.declared.Interval.{Interval}
use Rattle.interval.specs.Bounds.{same_interval}
use Rattle.queue.specs.declared.Block.{Block}
use Rattle.queue.specs.declared.Last.{Last}
use Rattle.queue.specs.declared.directions.Direction.{Direction}
use Rattle.queue.specs.declared.directions.Direction.TheVariants as D
use Rattle.queue.specs.Directions.{in_use, parameters}
use Rattle.queue.specs.Block.{parameter_of, recalled}
use Rattle.queue.specs.Code.{level_byte, coordinate_code, bounds_code, parameter_code, parameters_code, place_code}
use Rattle.queue.specs.Code.{encode}
use Rattle.queue.specs.CodeComputed.{Written}

-- stores one after another, and then more at their end
pub sets_append : (vs ws l : List ℕ) (at : ℕ) → sets (sets l at vs) (at + length vs) ws ≡ sets l at (vs ++ ws)
sets_append [] ws l at = rw add-zero
sets_append (v ∷ vs) ws l at =
    let e : at + suc (length vs) ≡ suc at + length vs = omega arith in rw e (sets_append vs ws (set l at v) (suc at))

-- the last of some bytes stored first
pub sets_last : (vs l : List ℕ) (at b : ℕ) → sets (set l (at + length vs) b) at vs ≡ sets l at (vs ++ (b ∷ []))
sets_last [] l at b = rw add-zero
sets_last (v ∷ vs) l at b =
    let e : at + suc (length vs) ≡ suc at + length vs = omega arith in
    ap (λ (k : List ℕ). sets k (suc at) vs) (set_comm l (at + suc (length vs)) at b v (λ q. omega arith))
    ∙ rw e (sets_last vs (set l at v) (suc at) b)

-- the front of a buffer that bytes were stored at
pub take_sets : (vs l : List ℕ) → length vs ≤ length l → take (length vs) (sets l 0 vs) ≡ vs
take_sets vs l h = rw (sets-eq vs l 0 (omega arith)) (take_at vs (drop (0 + length vs) l) (length vs) refl)

-- a part of a buffer that other bytes took the place of, anywhere and at the front
pub part_put : (l vs zs : List ℕ) (at k : ℕ) → zs ≡ vs → k ≡ length vs → at + length vs ≤ length l → put_mid at k l zs ≡ sets l at vs
part_put l vs zs at k e f h =
    rw (e, f, drop-drop (length vs) at l) (sym (sets-eq vs l at h ∙ append_assoc (take at l) vs _))

pub front_put : (l vs zs : List ℕ) (k : ℕ) → zs ≡ vs → k ≡ length vs → length vs ≤ length l → zs ++ drop k l ≡ sets l 0 vs
front_put l vs zs k e f h = rw (e, f) (sym (rw zero-add at (sets-eq vs l 0 (omega arith))))

-- one byte more of a number, lowest first, in the place of another
pub little_step : (l : List ℕ) (i v : ℕ) → i < length l
    → take (i + 1) (set l i (v % 256)) ++ little_endian (length l - (i + 1)) (v / 256) ≡ take i l ++ little_endian (length l - i) v
unfolding little_endian
little_step l i v h =
    let e : length l - i ≡ suc (length l - (i + 1)) = omega arith in
    rw (e, add-one i, take-suc-set l i (v % 256) h) (append_assoc (take i l) (v % 256 ∷ []) _)

-- the eight bytes of a number, as the library writes them
pub word_bytes : (v : ℕ) → to_be_bytes w64 v ≡ big_endian 8 v
unfolding big_endian
word_bytes v = simp div-div-eq-div-mul

-- ---- lengths

pub coordinate_length : (last : ℕ) (c : Coordinate)
    → length (coordinate_code last c) ≡ length (small_code (bit_xor c.index last)) + 1
unfolding coordinate_code
coordinate_length last c = length-append (small_code (bit_xor c.index last)) (level_byte c.rank ∷ [])

pub xor_under : (a b : ℕ) → a < 2 ^ 47 → b < 2 ^ 47 → bit_xor a b < 2 ^ 56
xor_under a b h k = omega (arith, xor_lt 47 a b h k)

pub coordinate_few : (last : ℕ) (c : Coordinate) → last < 2 ^ 47 → c.index < 2 ^ 47
    → length (coordinate_code last c) ≤ 9
coordinate_few last c h k =
    omega (arith, coordinate_length last c, length_few (bit_xor c.index last) (xor_under c.index last k h))

pub bounds_length : (p : Interval) → length (bounds_code p) ≡ 16
unfolding bounds_code
bounds_length p = simp (length-append, length_big)

pub parameter_few : (used : Bool) (last p : Interval) → length (parameter_code used last p) ≤ 16
unfolding parameter_code
parameter_few used last p = go used (same_interval p last)
  where
    go : (u s : Bool) → length (cond u (cond s (255 ∷ 255 ∷ []) (bounds_code p)) []) ≤ 16
    go true true = omega arith
    go true false = omega (arith, bounds_length p)
    go false s = omega arith

-- ---- what the writers leave

-- one part behind another
pub join : (out : List ℕ) (at : ℕ) (c d : List ℕ) {r r₁ : ℕ} {out₁ out₂ : List ℕ} → Written out at c r out₁
    → Written out₁ r d r₁ out₂ → Written out at (c ++ d) r₁ out₂
join out at c d (e, f) (g, h) = (g ∙ rw e (simp length-append (omega arith)), h ∙ rw (e, f) (sets_append c d out at))

-- one byte
pub one_byte : (out : List ℕ) (at b : ℕ) → Written out at (b ∷ []) (at + 1) (set out at b)
one_byte out at b = (refl, refl)

pub none_put : (out : List ℕ) (at : ℕ) → Written out at [] at out
none_put out at = (sym (add-zero at), refl)

pub bounds_put : (out out₁ out₂ : List ℕ) (at : ℕ) (p : Interval) (a b : ℕ) → a ≡ to_bits binary64 p.lower
    → b ≡ to_bits binary64 p.upper
    → out₁ ≡ sets out at (big_endian 8 a) → out₂ ≡ sets out₁ (at + 8) (big_endian 8 b)
    → Written out at (bounds_code p) (at + 16) out₂
unfolding bounds_code
bounds_put out out₁ out₂ at p a b e f g h =
    let w : Written out at (big_endian 8 a ++ big_endian 8 b) (at + 16) out₂ =
    join out at (big_endian 8 a) (big_endian 8 b) (rw (length_big 8 a), g) (rw (length_big 8 b) (omega arith), h) in
    rw (e, f) at w

pub unused_put : (out : List ℕ) (at : ℕ) (used : Bool) (last p : Interval) → not used ≡ true
    → Written out at (parameter_code used last p) at out
unfolding parameter_code
unused_put out at true last p e = absurd (false≢true e)
unused_put out at false last p e = none_put out at

pub same_put : (out out₁ : List ℕ) (at r : ℕ) (used : Bool) (last p : Interval) → not used ≡ false
    → same_interval p last ≡ true
    → Written out at (255 ∷ 255 ∷ []) r out₁ → Written out at (parameter_code used last p) r out₁
unfolding parameter_code
same_put out out₁ at r true last p e f w = rw f w
same_put out out₁ at r false last p e f w = absurd (true≢false e)

pub other_put : (out out₁ : List ℕ) (at r : ℕ) (used : Bool) (last p : Interval) → not used ≡ false
    → same_interval p last ≡ false
    → Written out at (bounds_code p) r out₁ → Written out at (parameter_code used last p) r out₁
unfolding parameter_code
other_put out out₁ at r true last p e f w = rw f w
other_put out out₁ at r false last p e f w = absurd (true≢false e)

pub number_put : (out out₁ : List ℕ) (at x : ℕ) (c : Code) → code_of x ≡ Ok c
    → out₁ ≡ sets (set out at c.head) (at + 1) (little_endian c.count c.tail)
    → Written out at (small_code x) (at + 1 + c.count) out₁
number_put out out₁ at x c e f =
    let s = code_stored x c e in
    (omega (arith, s.long), f ∙ rw (s.bytes, add-one at))

pub coordinate_put : (out out₁ : List ℕ) (at end last : ℕ) (c : Coordinate) (byte : ℕ)
    → Written out at (small_code (bit_xor c.index last)) end out₁ → byte ≡ level_byte c.rank
    → Written out at (coordinate_code last c) (end + 1) (set out₁ end byte)
unfolding coordinate_code
coordinate_put out out₁ at end last c byte w e =
    rw e (join out at (small_code (bit_xor c.index last)) (level_byte c.rank ∷ []) w
    (one_byte out₁ end (level_byte c.rank)))

pub parameters_put : (set : ℕ) (last : Last) (b : Block) (out out₁ out₂ out₃ out₄ : List ℕ) (at r r₂ r₃ r₄ : ℕ)
    → Written out at (parameter_code (in_use set D.M) last.m b.m) r out₁
    → Written out₁ r (parameter_code (in_use set D.N) last.n b.n) r₂ out₂
    → Written out₂ r₂ (parameter_code (in_use set D.Theta) last.theta b.theta) r₃ out₃
    → Written out₃ r₃ (parameter_code (in_use set D.T) last.t b.t) r₄ out₄
    → Written out at (parameters_code set last b parameters) r₄ out₄
unfolding parameters_code
parameters_put set last b out out₁ out₂ out₃ out₄ at r r₂ r₃ r₄ v w x y =
    let m : List ℕ = parameter_code (in_use set D.M) last.m b.m in
    let n : List ℕ = parameter_code (in_use set D.N) last.n b.n in
    let theta : List ℕ = parameter_code (in_use set D.Theta) last.theta b.theta in
    let t : List ℕ = parameter_code (in_use set D.T) last.t b.t in
    join out at m (n ++ (theta ++ (t ++ []))) v
    (join out₁ r n (theta ++ (t ++ [])) w
    (join out₂ r₂ theta (t ++ []) x (join out₃ r₃ t [] y (none_put out₄ r₄))))

pub parameters_few : (set : ℕ) (last : Last) (b : Block) (ds : List Direction)
    → length (parameters_code set last b ds) ≤ 16 * length ds
unfolding parameters_code
parameters_few set last b [] = omega arith
parameters_few set last b (d ∷ ds) =
    let p : List ℕ = parameter_code (in_use set d) (recalled last d) (parameter_of b d) in
    omega (
      arith,
      length-append p (parameters_code set last b ds),
      parameter_few (in_use set d) (recalled last d) (parameter_of b d),
      parameters_few set last b ds,
    )

pub place_put : (last : Last) (b : Block) (out out₁ out₂ : List ℕ) (r r₂ : ℕ)
    → Written out 0 (coordinate_code last.x b.x) r out₁
    → Written out₁ r (coordinate_code last.y b.y) r₂ out₂ → Written out 0 (place_code last b) r₂ out₂
unfolding place_code
place_put last b out out₁ out₂ r r₂ v w =
    join out 0 (coordinate_code last.x b.x) (coordinate_code last.y b.y) v w

pub block_put : (vars : ℕ) (last : Last) (b : Block) (out out₁ out₂ : List ℕ) (r r₂ : ℕ)
    → Written out 0 (place_code last b) r out₁
    → Written out₁ r (parameters_code vars last b parameters) r₂ out₂
    → Written out 0 (encode vars last b) (r₂ + 1) (set out₂ r₂ b.dir)
unfolding encode
block_put vars last b out out₁ out₂ r r₂ v w =
    join out 0 (place_code last b) (parameters_code vars last b parameters ++ (b.dir ∷ [])) v
    (join out₁ r (parameters_code vars last b parameters) (b.dir ∷ []) w (one_byte out₂ r₂ b.dir))

pub place_few : (last : Last) (b : Block) → last.x < 2 ^ 47 → last.y < 2 ^ 47 → b.x.index < 2 ^ 47
    → b.y.index < 2 ^ 47 → length (place_code last b) ≤ 18
unfolding place_code
place_few last b h k p q =
    omega (
      arith,
      length-append (coordinate_code last.x b.x) (coordinate_code last.y b.y),
      coordinate_few last.x b.x h p,
      coordinate_few last.y b.y k q,
    )

-- a block's code is its place, its parameters and a direction byte
pub encode_length : (set : ℕ) (last : Last) (b : Block)
    → length (place_code last b) + length (parameters_code set last b parameters) + 1 ≡ length (encode set last b)
unfolding encode
encode_length set last b =
    let ps : List ℕ = parameters_code set last b parameters in
    omega (arith, length-append (place_code last b) (ps ++ (b.dir ∷ [])), length-append ps (b.dir ∷ []))
