-- What was written is read: a block's code, whatever follows it, decodes to the block. Assumes nothing.
use Rattle.std.specs.Prelude.{Some}
use mathlib.Core.Path.{◌≡◌, refl, sym, ap, ◌∙◌}
use mathlib.Core.Bool.{Bool, true, false, cond, ◌&&◌}
use mathlib.Core.List.{List, [], ◌∷◌, ◌++◌, append_assoc}
use Prim.Native.Nat.{ℕ, suc, ◌+◌, ◌-◌, ◌/◌, ◌%◌, ◌^◌, ◌≤◌, ◌<◌}
use native.Mathlib.Omega.{arith}
use native.Mathlib.Nat.{add_assoc, add-zero}
use lib.Bits.{bit_xor}
use lib.Dec.{eqb}
use lib.Ieee.{binary64, to_bits}
use lib.ListN.{length, get_or, take, drop, length-append}
use lib.Seq.{take_at, drop_at, drop-drop, get_or-drop}
use borrow.Author.Tests.{le-leb, lt-leb, lt-ltb, ne_eqb, eqb-true}
use Rattle.base.specs.Bytes.{big_endian, of_big_endian}
use Rattle.base.proofs.Test.{by_ltb, cases, and_left, and_right}
use Rattle.base.proofs.BytesLaws.{length_big, big_round}
use Rattle.std.specs.Prelude.{Ok}
use Rattle.small.specs.Small.{small_code, read_small}
use Rattle.small.proofs.Reading.{read_written}
use Rattle.coordinate.specs.declared.Coordinate.{Coordinate}
use Rattle.coordinate.proofs.PixelLaws.{Ranged}
use Rattle.interval.specs.declared.Interval.{Interval}
use Rattle.interval.specs.Bounds.{InFormat, put_interval, same_interval}
use Rattle.interval.proofs.Legality.{put_again}
use Rattle.interval.proofs.Sameness.{same_put, same_is}
use Rattle.interval.proofs.ProperPieces.{Proper, put_format}
use Rattle.interval.proofs.BoundBits.{bits_fit, read_back, no_mark}
use Rattle.queue.specs.declared.Block.{Block}
use Rattle.queue.specs.declared.Last.{Last}
use Rattle.queue.specs.declared.directions.Direction.{Direction}
use Rattle.queue.specs.Directions.{in_use, parameters}
use Rattle.queue.specs.Block.{whole_line, is_integer, parameter_of, with_parameter, recalled}
use Rattle.queue.specs.Code.{level_byte, coordinate_code, bounds_code, parameter_code, parameters_code, place_code}
use Rattle.queue.specs.Code.{encode}
use Rattle.queue.specs.Decode.{level_of, level_read, coordinate_of, coordinate_read, bounds_of, bounds_read, used_read}
use Rattle.queue.specs.Decode.{parameter_read, with_x, place_read, add_parameter, add_parameters, add_direction}
use Rattle.queue.specs.Decode.{decode}
use Rattle.queue.proofs.WriteLaws.{coordinate_length, bounds_length, xor_under, encode_length}
use Rattle.queue.proofs.Xor.{xor_cancel}

-- ---- a coordinate

level_round : (rank : ℕ) → 16 ≤ rank → rank < 64 → level_of (level_byte rank) ≡ Some rank
level_round rank h k =
    by_ltb (λ (b : ℕ). level_of b ≡ Some rank) rank 48 (rank + 208) (rank - 48)
    (λ m.
    let e : rank + 208 - 208 ≡ rank = omega arith in
    rw (lt-leb (rank + 208) 15 (omega arith), le-leb 224 (rank + 208) (omega arith), e))
    (λ m.
    let e : rank - 48 + 48 ≡ rank = omega arith in
    rw (le-leb (rank - 48) 15 (omega arith), e))

level_first : (byte : ℕ) (rest : List ℕ) → level_read (byte ∷ rest) ≡ level_of byte
unfolding level_read
level_first byte rest = rw (ne_eqb (suc (length rest)) 0 (λ e. omega arith))

coordinate_flat : (last : ℕ) (c : Coordinate) (rest : List ℕ)
    → coordinate_code last c ++ rest ≡ small_code (bit_xor c.index last) ++ (level_byte c.rank ∷ rest)
unfolding coordinate_code
coordinate_flat last c rest = append_assoc (small_code (bit_xor c.index last)) (level_byte c.rank ∷ []) rest

pub coordinate_round : (last : ℕ) (c : Coordinate) (rest : List ℕ) → last < 2 ^ 47 → Ranged 16 c.rank c.index
    → coordinate_read last (coordinate_code last c ++ rest) ≡ Some (c, length (coordinate_code last c))
unfolding coordinate_read coordinate_of
coordinate_round last c rest h r =
    let x : ℕ = bit_xor c.index last in
    let bs : List ℕ = small_code x in
    let lb : ℕ = level_byte c.rank in
    let number : read_small (bs ++ (lb ∷ rest)) ≡ Ok (record { x = x; count = length bs }) =
    read_written x (lb ∷ rest) (xor_under c.index last r.bound h) in
    let level : level_read (drop (length bs) (bs ++ (lb ∷ rest))) ≡ Some c.rank =
    rw (drop_at bs (lb ∷ rest) (length bs) refl) (level_first lb rest ∙ level_round c.rank r.low r.high) in
    rw (coordinate_flat last c rest, number, level, xor_cancel last c.index, coordinate_length last c)

-- ---- a parameter

-- the two first bytes of a number, highest first
first_bytes : (v : ℕ) (rest : List ℕ) → v < 2 ^ 64 → (v / 2 ^ 48 ≡ 65535 → ⊥)
    → eqb (get_or (big_endian 8 v ++ rest) 0 0) 255 && eqb (get_or (big_endian 8 v ++ rest) 1 0) 255 ≡ false
unfolding big_endian
first_bytes v rest h k =
    cases (a && b) (λ t. absurd (k (both (eqb-true _ 255 (and_left a b t)) (eqb-true _ 255 (and_right a b t)))))
    (λ e. e)
  where
    a : Bool
    a = eqb (get_or (big_endian 8 v ++ rest) 0 0) 255

    b : Bool
    b = eqb (get_or (big_endian 8 v ++ rest) 1 0) 255

    both : v / 256 / 256 / 256 / 256 / 256 / 256 / 256 % 256 ≡ 255 → v / 256 / 256 / 256 / 256 / 256 / 256 % 256 ≡ 255
        → v / 2 ^ 48 ≡ 65535
    both p q = omega arith

-- the 16 bytes of bounds
module _ (p : Interval) (integer : Bool) (ok : Proper integer p) (rest : List ℕ) where
  abbrev lower : ℕ
  lower = to_bits binary64 p.lower

  abbrev upper : ℕ
  upper = to_bits binary64 p.upper

  abbrev s : List ℕ
  s = bounds_code p ++ rest

  apart : s ≡ big_endian 8 lower ++ (big_endian 8 upper ++ rest)
  unfolding bounds_code
  apart = append_assoc (big_endian 8 lower) (big_endian 8 upper) rest

  long : 16 ≤ length s
  long = omega (arith, length-append (bounds_code p) rest, bounds_length p)

  no_mark_here : eqb (get_or s 0 0) 255 && eqb (get_or s 1 0) 255 ≡ false
  no_mark_here =
      rw apart (first_bytes lower (big_endian 8 upper ++ rest) (bits_fit p.lower ok.format.0)
      (no_mark p integer ok.format ok.legal))

  first_word : of_big_endian (take 8 s) ≡ lower
  first_word =
      rw (apart, take_at (big_endian 8 lower) (big_endian 8 upper ++ rest) 8 (length_big 8 lower))
      (big_round 8 lower (bits_fit p.lower ok.format.0))

  second_word : of_big_endian (take 8 (drop 8 s)) ≡ upper
  second_word =
      rw (
        apart,
        drop_at (big_endian 8 lower) (big_endian 8 upper ++ rest) 8 (length_big 8 lower),
        take_at (big_endian 8 upper) rest 8 (length_big 8 upper),
      )
      (big_round 8 upper (bits_fit p.upper ok.format.1))

  bounds_round : bounds_read integer s ≡ Some (p, 16)
  unfolding bounds_read
  bounds_round =
      rw (le-leb 16 (length s) long, first_word, second_word)
      (ap bounds_of (read_back p integer ok.format ok.legal ok.put))

  pub other_round : (last : Interval) → used_read integer last s ≡ Some (p, length (bounds_code p))
  unfolding used_read
  other_round last = rw (le-leb 2 (length s) (omega (arith, long)), no_mark_here, bounds_length p) bounds_round

-- FF FF
mark_round : (integer : Bool) (last p : Interval) (rest : List ℕ) → Proper integer p → InFormat last
    → same_interval p last ≡ true
    → used_read integer last (255 ∷ 255 ∷ rest) ≡ Some (p, 2)
unfolding used_read
mark_round integer last p rest ok f e =
    let same : same_interval p (put_interval last) ≡ true =
    ap (λ (q : Interval). same_interval q (put_interval last)) (sym ok.put) ∙ same_put p last ∙ e in
    let is : p ≡ put_interval last =
    same_is p (put_interval last) ok.format (put_format last f) ok.put (put_again last) same in
    rw (le-leb 2 (suc (suc (length rest))) (omega arith), ← is)

-- a parameter that comes out as it went in: legal, put and of f64s if it is used, else the whole line
pub record ParameterFine (used integer : Bool) (p : Interval) : Type 0 where
  pub proper : used ≡ true → Proper integer p
  pub line : used ≡ false → p ≡ whole_line

pub parameter_round : (used integer : Bool) (last p : Interval) (rest : List ℕ) → ParameterFine used integer p
    → InFormat last
    → parameter_read used integer last (parameter_code used last p ++ rest)
    ≡ Some (p, length (parameter_code used last p))
unfolding parameter_read parameter_code
parameter_round true integer last p rest ok f = go (same_interval p last) refl
  where
    go : (t : Bool) → same_interval p last ≡ t
        → used_read integer last (cond t (255 ∷ 255 ∷ []) (bounds_code p) ++ rest)
        ≡ Some (p, length (cond t (255 ∷ 255 ∷ []) (bounds_code p)))
    go true e = mark_round integer last p rest (ok.proper refl) f e
    go false e = other_round p integer (ok.proper refl) rest last
parameter_round false integer last p rest ok f = rw (ok.line refl)

-- ---- the block

-- the block once x and y are read
abbrev begun : Block → Block
begun b = record { x = b.x; y = b.y; m = whole_line; n = whole_line; theta = whole_line; t = whole_line; dir = 0 }

-- x and y
place_round : (last : Last) (b : Block) (rest : List ℕ) → last.x < 2 ^ 47 → last.y < 2 ^ 47
    → Ranged 16 b.x.rank b.x.index → Ranged 16 b.y.rank b.y.index
    → place_read last (place_code last b ++ rest) ≡ Some (begun b, length (place_code last b))
unfolding place_read with_x place_code
place_round last b rest h k p q =
    let xs : List ℕ = coordinate_code last.x b.x in
    let ys : List ℕ = coordinate_code last.y b.y in
    let e : coordinate_read last.x (xs ++ (ys ++ rest)) ≡ Some (b.x, length xs) =
    coordinate_round last.x b.x (ys ++ rest) h p in
    let f : coordinate_read last.y (drop (length xs) (xs ++ (ys ++ rest))) ≡ Some (b.y, length ys) =
    rw (drop_at xs (ys ++ rest) (length xs) refl) (coordinate_round last.y b.y rest k q) in
    rw (append_assoc xs ys rest, e, f, length-append xs ys)

-- the block with these parameters taken over from another
abbrev copied : Block → List Direction → Block → Block
copied b [] c = c
copied b (d ∷ ds) c = copied b ds (with_parameter c d (parameter_of b d))

-- parameters, one after the other
module _ (set : ℕ) (last : Last) (b : Block)
    (fine : (d : Direction) → ParameterFine (in_use set d) (is_integer d) (parameter_of b d))
    (known : (d : Direction) → InFormat (recalled last d)) where
  along_round : (s rest : List ℕ) (d : Direction) (c : Block) (n : ℕ)
      → drop n s ≡ parameter_code (in_use set d) (recalled last d) (parameter_of b d) ++ rest
      → add_parameter set last s d (Some (c, n))
      ≡ Some (with_parameter c d (parameter_of b d), n + length (parameter_code (in_use set d) (recalled last d) (parameter_of b d)))
  unfolding add_parameter
  along_round s rest d c n e =
      rw (e, parameter_round (in_use set d) (is_integer d) (recalled last d) (parameter_of b d) rest (fine d) (known d))

  parameters_round : (s rest : List ℕ) (ds : List Direction) (c : Block) (n : ℕ)
      → drop n s ≡ parameters_code set last b ds ++ rest
      → add_parameters set last s ds (Some (c, n)) ≡ Some (copied b ds c, n + length (parameters_code set last b ds))
  unfolding add_parameters parameters_code
  parameters_round s rest [] c n e = rw (add-zero n)
  parameters_round s rest (d ∷ ds) c n e =
      let code : List ℕ = parameter_code (in_use set d) (recalled last d) (parameter_of b d) in
      let more : List ℕ = parameters_code set last b ds in
      let e' : drop n s ≡ code ++ (more ++ rest) = e ∙ append_assoc code more rest in
      let f : drop (n + length code) s ≡ more ++ rest =
      sym (drop-drop (length code) n s) ∙ rw (e', drop_at code (more ++ rest) (length code) refl) in
      rw (along_round s (more ++ rest) d c n e')
      (parameters_round s rest ds (with_parameter c d (parameter_of b d)) (n + length code) f
      ∙ rw (length-append code more, add_assoc n (length code) (length more)))

-- a block that comes out of the queue as it went in
pub record CanQueue (set : ℕ) (b : Block) : Type 0 where
  pub x : Ranged 16 b.x.rank b.x.index
  pub y : Ranged 16 b.y.rank b.y.index
  pub fine : (d : Direction) → ParameterFine (in_use set d) (is_integer d) (parameter_of b d)

-- remembered values that a block can have left
pub record Known (last : Last) : Type 0 where
  pub x : last.x < 2 ^ 47
  pub y : last.y < 2 ^ 47
  pub format : (d : Direction) → InFormat (recalled last d)

direction_round : (s : List ℕ) (b : Block) (n dir : ℕ) (rest : List ℕ) → drop n s ≡ dir ∷ rest → n < length s
    → add_direction s (Some (b, n)) ≡ Some (record { x = b.x; y = b.y; m = b.m; n = b.n; theta = b.theta; t = b.t; dir = dir }, n + 1)
unfolding add_direction
direction_round s b n dir rest e h =
    let g : get_or s n 0 ≡ dir =
    ap (λ (k : ℕ). get_or s k 0) (sym (add-zero n)) ∙ sym (get_or-drop n s 0 0) ∙ ap (λ (l : List ℕ). get_or l 0 0) e in
    rw (lt-ltb n (length s) h, g)

encode_flat : (set : ℕ) (last : Last) (b : Block) (rest : List ℕ)
    → encode set last b ++ rest ≡ place_code last b ++ (parameters_code set last b parameters ++ (b.dir ∷ rest))
unfolding encode
encode_flat set last b rest =
    let ps : List ℕ = parameters_code set last b parameters in
    append_assoc (place_code last b) (ps ++ (b.dir ∷ [])) rest
    ∙ ap (λ (l : List ℕ). place_code last b ++ l) (append_assoc ps (b.dir ∷ []) rest)

-- DECODE AFTER ENCODE, with any bytes behind
pub decode_encode : (set : ℕ) (last : Last) (b : Block) (rest : List ℕ) → Known last → CanQueue set b
    → decode set last (encode set last b ++ rest) ≡ Some (b, length (encode set last b))
unfolding decode
decode_encode set last b rest k c =
    let place : List ℕ = place_code last b in
    let ps : List ℕ = parameters_code set last b parameters in
    let s : List ℕ = place ++ (ps ++ (b.dir ∷ rest)) in
    let flat : encode set last b ++ rest ≡ s = encode_flat set last b rest in
    let e : place_read last s ≡ Some (begun b, length place) =
    place_round last b (ps ++ (b.dir ∷ rest)) k.x k.y c.x c.y in
    let after : drop (length place) s ≡ ps ++ (b.dir ∷ rest) =
    drop_at place (ps ++ (b.dir ∷ rest)) (length place) refl in
    let f : add_parameters set last s parameters (Some (begun b, length place))
    ≡ Some (copied b parameters (begun b), length place + length ps) =
    parameters_round set last b c.fine k.format s (b.dir ∷ rest) parameters (begun b) (length place) after in
    let end : drop (length place + length ps) s ≡ b.dir ∷ rest =
    sym (drop-drop (length ps) (length place) s) ∙ rw (after, drop_at ps (b.dir ∷ rest) (length ps) refl) in
    let inside : length place + length ps < length s =
    omega (arith, length-append place (ps ++ (b.dir ∷ rest)), length-append ps (b.dir ∷ rest)) in
    let n : length place + length ps + 1 ≡ length (encode set last b) = encode_length set last b in
    rw (flat, e, f, ← n) (direction_round s (copied b parameters (begun b)) (length place + length ps) b.dir rest
    end inside)
