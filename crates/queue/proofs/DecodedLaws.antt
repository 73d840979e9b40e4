-- A block that was decoded comes out again as it went in, if its indices are in the range: its levels are, and its
-- parameters are legal and put. Assumes nothing.
use Rattle.std.specs.Prelude.{Option, Some, None}
use mathlib.Core.Path.{◌≡◌, refl, ◌∙◌, subst}
use mathlib.Core.Bool.{Bool, true, false, cond, ◌&&◌, true≢false, false≢true}
use mathlib.Core.List.{List}
use Prim.Native.Nat.{ℕ, ◌+◌, ◌-◌, ◌^◌, ◌≤◌, ◌<◌}
use native.Mathlib.Omega.{arith}
use lib.Bits.{bit_xor}
use lib.Dec.{leb, ltb, eqb}
use lib.ListN.{length, get_or, take, drop}
use borrow.Author.Tests.{leb-true}
use Rattle.base.specs.Bytes.{of_big_endian}
use Rattle.std.specs.Prelude.{Result, Ok, Err}
use Rattle.refusal.specs.declared.Refusal.{Refusal}
use Rattle.small.specs.declared.Number.{Number}
use Rattle.small.specs.Small.{read_small}
use Rattle.coordinate.specs.declared.Coordinate.{Coordinate}
use Rattle.interval.specs.declared.Interval.{Interval}
use Rattle.interval.specs.Bounds.{InFormat, legal_interval, put_interval}
use Rattle.interval.specs.Answers.{answer_from_bits}
use Rattle.interval.proofs.Legality.{put_again, put_legal}
use Rattle.interval.proofs.ProperPieces.{Proper, put_format}
use Rattle.interval.proofs.BoundBits.{read_proper}
use Rattle.queue.specs.declared.Block.{Block}
use Rattle.queue.specs.declared.Last.{Last}
use Rattle.queue.specs.declared.directions.Direction.{Direction}
use Rattle.queue.specs.declared.directions.Direction.TheVariants as D
use Rattle.queue.specs.Directions.{in_use, parameters}
use Rattle.queue.specs.Block.{is_integer, parameter_of, with_parameter, recalled}
use Rattle.queue.specs.Decode.{level_of, level_read, coordinate_with, coordinate_of, coordinate_read, bounds_of}
use Rattle.queue.specs.Decode.{bounds_read, used_read, parameter_read, with_y, with_x, place_read, with_read}
use Rattle.queue.specs.Decode.{add_parameter, add_parameters, add_direction, decode}
use Rattle.queue.proofs.ReadLaws.{later_bytes}
use Rattle.queue.proofs.RoundTrip.{ParameterFine, CanQueue, Known}
use Rattle.queue.proofs.BlockReading.{directed}
use Rattle.queue.proofs.KeptLaws.{line_fine}

abbrev Bytes : List ℕ → Type 0
Bytes s = (i : ℕ) → get_or s i 0 < 256

-- ---- a coordinate's level

abbrev InRank : ℕ → Type 0
InRank rank = (16 ≤ rank) × (rank < 64)

abbrev LevelGood : Option ℕ → Type 0
LevelGood (Some rank) = InRank rank
LevelGood None = Unit {0}

level_good : (byte : ℕ) → byte < 256 → LevelGood (level_of byte)
level_good byte h = go (leb byte 15) refl (leb 224 byte) refl
  where
    go : (t : Bool) → leb byte 15 ≡ t → (u : Bool) → leb 224 byte ≡ u
        → LevelGood (cond t (Some (byte + 48)) (cond u (Some (byte - 208)) None))
    go true e u f = (omega arith, omega (arith, leb-true byte 15 e))
    go false e true f = (omega (arith, leb-true 224 byte f), omega arith)
    go false e false f = tt

read_good : (s : List ℕ) → Bytes s → LevelGood (level_read s)
unfolding level_read
read_good s h = go (eqb (length s) 0)
  where
    go : (t : Bool) → LevelGood (cond t None (level_of (get_or s 0 0)))
    go true = tt
    go false = level_good (get_or s 0 0) (h 0)

abbrev CoordinateGood : Option (Coordinate × ℕ) → Type 0
CoordinateGood (Some (c, count)) = InRank c.rank
CoordinateGood None = Unit {0}

coordinate_good : (last : ℕ) (s : List ℕ) → Bytes s → CoordinateGood (coordinate_read last s)
unfolding coordinate_read coordinate_of
coordinate_good last s h = go (read_small s)
  where
    level : (x n : ℕ) (l : Option ℕ) → LevelGood l → CoordinateGood (coordinate_with (bit_xor last x) n l)
    level x n (Some k) g = g
    level x n None g = tt

    go : (r : Result Number Refusal) → CoordinateGood (coordinate_of last s r)
    go (Ok n) = level n.x n.count (level_read (drop n.count s)) (read_good (drop n.count s) (later_bytes s n.count h))
    go (Err w) = tt

-- ---- a parameter

abbrev ParameterGood : Bool → Bool → Option (Interval × ℕ) → Type 0
ParameterGood used integer (Some (p, count)) = ParameterFine used integer p
ParameterGood used integer None = Unit {0}

proper_fine : (integer : Bool) (p : Interval) → Proper integer p → ParameterFine true integer p
proper_fine integer p q = record { proper = λ e. q; line = λ e. absurd (true≢false e) }

parameter_good : (used integer : Bool) (last : Interval) (s : List ℕ) → InFormat last
    → (used ≡ true → legal_interval last integer ≡ true)
    → ParameterGood used integer (parameter_read used integer last s)
unfolding parameter_read used_read bounds_read
parameter_good false integer last s f l = record { proper = λ e. absurd (false≢true e); line = λ e. refl }
parameter_good true integer last s f l = two (leb 2 (length s)) (eqb (get_or s 0 0) 255 && eqb (get_or s 1 0) 255)
  where
    whole : (r : Result Interval Refusal) → answer_from_bits (of_big_endian (take 8 s)) (of_big_endian (take 8 (drop 8 s))) integer ≡ r
        → (t : Bool)
        → ParameterGood true integer (cond t (bounds_of r) None)
    whole (Ok p) e true =
        proper_fine integer p (read_proper (of_big_endian (take 8 s)) (of_big_endian (take 8 (drop 8 s))) integer p e)
    whole (Err w) e true = tt
    whole r e false = tt

    two : (t m : Bool) → ParameterGood true integer
        (cond t (cond m (Some (put_interval last, 2)) (bounds_read integer s)) None)
    two true true =
        proper_fine integer (put_interval last)
        (record { legal = put_legal last integer ∙ l refl; put = put_again last; format = put_format last f })
    two true false =
        whole (answer_from_bits (of_big_endian (take 8 s)) (of_big_endian (take 8 (drop 8 s))) integer) refl (leb 16 (length s))
    two false m = tt

-- ---- the block

-- of the block that was read, if one was
abbrev Has : (Block → Type 0) → Option (Block × ℕ) → Type 0
Has H (Some (b, count)) = H b
Has H None = Unit {0}

abbrev Ranks : Block → Type 0
Ranks b = InRank b.x.rank × InRank b.y.rank

place_good : (last : Last) (s : List ℕ) → Bytes s → Has Ranks (place_read last s)
unfolding place_read with_x
place_good last s h = go (coordinate_read last.x s) (coordinate_good last.x s h)
  where
    next : (x : Coordinate) (n : ℕ) → InRank x.rank → (r : Option (Coordinate × ℕ)) → CoordinateGood r
        → Has Ranks (with_y x n r)
    next x n g (Some (y, k)) i = (g, i)
    next x n g None i = tt

    go : (r : Option (Coordinate × ℕ)) → CoordinateGood r → Has Ranks (with_x last s r)
    go (Some (x, n)) g =
        next x n g (coordinate_read last.y (drop n s)) (coordinate_good last.y (drop n s) (later_bytes s n h))
    go None g = tt

module _ (set : ℕ) (last : Last) (s : List ℕ) (known : Known last)
    (legal : (d : Direction) → in_use set d ≡ true → legal_interval (recalled last d) (is_integer d) ≡ true) where
  abbrev FineAt : Direction → Block → Type 0
  FineAt d b = ParameterFine (in_use set d) (is_integer d) (parameter_of b d)

  add_good : (H K : Block → Type 0) (d : Direction) (r : Option (Block × ℕ))
      → ((b : Block) (p : Interval) → H b → ParameterFine (in_use set d) (is_integer d) p → K (with_parameter b d p))
      → Has H r → Has K (add_parameter set last s d r)
  unfolding add_parameter
  add_good H K d (Some (b, n)) step g =
      go (parameter_read (in_use set d) (is_integer d) (recalled last d) (drop n s))
      (parameter_good (in_use set d) (is_integer d) (recalled last d) (drop n s) (known.format d) (legal d))
    where
      go : (r : Option (Interval × ℕ)) → ParameterGood (in_use set d) (is_integer d) r → Has K (with_read b d n r)
      go (Some (p, k)) f = step b p g f
      go None f = tt
  add_good H K d None step g = tt

  all_good : (r : Option (Block × ℕ)) → Has Ranks r
      → Has (λ (b : Block). Ranks b × FineAt D.M b × FineAt D.N b × FineAt D.Theta b × FineAt D.T b)
      (add_parameters set last s parameters r)
  unfolding add_parameters
  all_good r g =
      add_good (λ (b : Block). Ranks b × FineAt D.M b × FineAt D.N b × FineAt D.Theta b)
      (λ (b : Block). Ranks b × FineAt D.M b × FineAt D.N b × FineAt D.Theta b × FineAt D.T b)
      D.T _ (λ b p h f. (h.0, h.1, h.2, h.3, f))
      (add_good (λ (b : Block). Ranks b × FineAt D.M b × FineAt D.N b)
      (λ (b : Block). Ranks b × FineAt D.M b × FineAt D.N b × FineAt D.Theta b)
      D.Theta _ (λ b p h f. (h.0, h.1, h.2, f))
      (add_good (λ (b : Block). Ranks b × FineAt D.M b) (λ (b : Block). Ranks b × FineAt D.M b × FineAt D.N b) D.N _
      (λ b p h f. (h.0, h.1, f))
      (add_good Ranks (λ (b : Block). Ranks b × FineAt D.M b) D.M r (λ b p h f. (h, f)) g)))

  direction_good : (H : Block → Type 0) (r : Option (Block × ℕ))
      → ((b : Block) (dir : ℕ) → H b → H (directed b dir)) → Has H r → Has H (add_direction s r)
  unfolding add_direction
  direction_good H (Some (b, n)) keep g = go (ltb n (length s))
    where
      go : (t : Bool) → Has H (cond t (Some (directed b (get_or s n 0), n + 1)) None)
      go true = keep b (get_or s n 0) g
      go false = tt
  direction_good H None keep g = tt

  decode_good : Bytes s → Has (λ (b : Block). Ranks b × FineAt D.M b × FineAt D.N b × FineAt D.Theta b × FineAt D.T b)
      (decode set last s)
  unfolding decode
  decode_good h =
      direction_good (λ (b : Block). Ranks b × FineAt D.M b × FineAt D.N b × FineAt D.Theta b × FineAt D.T b)
      (add_parameters set last s parameters (place_read last s))
      (λ b dir g. g) (all_good (place_read last s) (place_good last s h))

  -- A DECODED BLOCK CAN BE QUEUED
  pub decoded_can : (b : Block) (count : ℕ) → ((i : ℕ) → get_or s i 0 < 256) → decode set last s ≡ Some (b, count)
      → b.x.index < 2 ^ 47 → b.y.index < 2 ^ 47 → CanQueue set b
  decoded_can b count h e p q =
      made (subst (Has (λ (b : Block). Ranks b × FineAt D.M b × FineAt D.N b × FineAt D.Theta b × FineAt D.T b)) e
      (decode_good h))
    where
      each : (d : Direction) → Ranks b × FineAt D.M b × FineAt D.N b × FineAt D.Theta b × FineAt D.T b
          → ParameterFine (in_use set d) (is_integer d) (parameter_of b d)
      each D.XY g = line_fine (in_use set D.XY)
      each D.M g = g.1
      each D.N g = g.2
      each D.Theta g = g.3
      each D.T g = g.4

      made : Ranks b × FineAt D.M b × FineAt D.N b × FineAt D.Theta b × FineAt D.T b → CanQueue set b
      made g =
          record {
            x = record { low = g.0.0.0; high = g.0.0.1; bound = p };
            y = record { low = g.0.1.0; high = g.0.1.1; bound = q };
            fine = λ d. each d g;
          }
