-- A block that was read is as the queue keeps it, so that what its step queues can be queued. Assumes nothing.
use Rattle.std.specs.Prelude.{Option, Some, None}
use mathlib.Core.Path.{◌≡◌, refl, sym, ap, ◌∙◌}
use mathlib.Core.Bool.{Bool, true, false, ◌&&◌, true≢false, false≢true}
use mathlib.Core.List.{List}
use Prim.Native.Nat.{ℕ, ◌+◌}
use native.Mathlib.Omega.{arith}
use lib.Dec.{leb, ltb, eqb}
use lib.ListN.{length, get_or, drop, take}
use Rattle.base.proofs.Test.{cases}
use Rattle.base.specs.Bytes.{of_big_endian}
use Rattle.base.specs.Lists.{Every}
use Rattle.interval.specs.declared.Interval.{Interval}
use Rattle.std.specs.Prelude.{Result, Ok, Err}
use Rattle.refusal.specs.declared.Refusal.{Refusal}
use Rattle.interval.specs.Answers.{bounds_from, answer_from_bits}
use Rattle.interval.specs.Bounds.{InFormat, legal_interval, put_interval}
use Rattle.interval.proofs.Legality.{put_again}
use Rattle.interval.proofs.ProperPieces.{put_format, line_proper}
use Rattle.interval.proofs.BoundBits.{read_proper}
use Rattle.queue.specs.declared.Block.{Block}
use Rattle.queue.specs.declared.Last.{Last}
use Rattle.queue.specs.declared.directions.Direction.{Direction}
use Rattle.queue.specs.declared.directions.Direction.TheVariants as D
use Rattle.queue.specs.Directions.{in_use, parameters}
use Rattle.queue.specs.Block.{whole_line, is_integer, with_parameter, recalled, as_queued_at, as_queued, remembered, parameter_of}
use Rattle.queue.specs.Code.{can_queue, indices_known}
use Rattle.queue.specs.Decode.{bounds_of, bounds_read, used_read, parameter_read, with_read, add_parameter, add_parameters, add_direction, place_read, decode}
use Rattle.queue.proofs.ReadLaws.{same_read}
use Rattle.queue.proofs.BlockReading.{directed as turned}
use Rattle.queue.proofs.RoundTrip.{ParameterFine, CanQueue}
use Rattle.queue.proofs.KeptLaws.{known_after, known_test, can_test, as_queued_is, line_fine}
use Rattle.decide.specs.declared.Chosen.{Chosen}
use Rattle.decide.specs.Damage.{sound}
use Rattle.decide.proofs.DamageLaws.{LegalParameters, is_sound}
use Rattle.plan.proofs.ChildLaws.{Fine}

-- A BLOCK THAT WAS READ

-- a parameter that was read is put, and one that is not used is the whole line
read_as_queued : (used integer : Bool) (last p : Interval) (s : List ℕ) (n : ℕ) → parameter_read used integer last s ≡ Some (p, n) → as_queued_at used p ≡ p
unfolding parameter_read used_read bounds_read answer_from_bits
read_as_queued false integer last p s n e = (same_read (whole_line, 0) (p, n) e).0
read_as_queued true integer last p s n e =
    cases (leb 2 (length s))
    (λ k. cases (eqb (get_or s 0 0) 255 && eqb (get_or s 1 0) 255) (λ h. again (rw (k, h) at e)) (λ h. bounds (rw (k, h) at e)))
    (λ k. none (rw k at e))
  where
    none : ◌≡◌ {A = Option (Interval × ℕ)} None (Some (p, n)) → put_interval p ≡ p
    none h = let z : ◌≡◌ {A = ℕ} 0 1 = cc in absurd (omega arith)

    is_put : (x : Interval) (m : ℕ) → ◌≡◌ {A = Option (Interval × ℕ)} (Some (put_interval x, m)) (Some (p, n)) → put_interval p ≡ p
    is_put x m h = let k : put_interval x ≡ p = (same_read (put_interval x, m) (p, n) h).0 in rw (← k) (put_again x)

    again : ◌≡◌ {A = Option (Interval × ℕ)} (Some (put_interval last, 2)) (Some (p, n)) → put_interval p ≡ p
    again h = is_put last 2 h

    bounds : bounds_read integer s ≡ Some (p, n) → put_interval p ≡ p
    bounds h =
        let a = of_big_endian (take 8 s) in
        let b = of_big_endian (take 8 (drop 8 s)) in
        cases (leb 16 (length s))
        (λ k. cases (legal_interval (bounds_from a b) integer) (λ l. is_put (bounds_from a b) 16 (rw (k, l) at h)) (λ l. none (rw (k, l) at h)))
        (λ k. none (rw k at h))

-- and its bounds are values of binary64, if the remembered ones are
read_format : (used integer : Bool) (last p : Interval) (s : List ℕ) (n : ℕ) → InFormat last → parameter_read used integer last s ≡ Some (p, n) → InFormat p
unfolding parameter_read used_read bounds_read
read_format false integer last p s n f e = let k : whole_line ≡ p = (same_read (whole_line, 0) (p, n) e).0 in rw (← k) (line_proper integer).format
read_format true integer last p s n f e =
    cases (leb 2 (length s))
    (λ k. cases (eqb (get_or s 0 0) 255 && eqb (get_or s 1 0) 255) (λ h. again (rw (k, h) at e)) (λ h. bounds (rw (k, h) at e)))
    (λ k. none (rw k at e))
  where
    none : ◌≡◌ {A = Option (Interval × ℕ)} None (Some (p, n)) → InFormat p
    none h = let z : ◌≡◌ {A = ℕ} 0 1 = cc in absurd (omega arith)

    again : ◌≡◌ {A = Option (Interval × ℕ)} (Some (put_interval last, 2)) (Some (p, n)) → InFormat p
    again h = let k : put_interval last ≡ p = (same_read (put_interval last, 2) (p, n) h).0 in rw (← k) (put_format last f)

    whole : (r : Result Interval Refusal) → answer_from_bits (of_big_endian (take 8 s)) (of_big_endian (take 8 (drop 8 s))) integer ≡ r → bounds_of r ≡ Some (p, n) → InFormat p
    whole (Ok q) g h = let k : q ≡ p = (same_read (q, 16) (p, n) h).0 in rw (← k) (read_proper (of_big_endian (take 8 s)) (of_big_endian (take 8 (drop 8 s))) integer q g).format
    whole (Err why) g h = none h

    bounds : bounds_read integer s ≡ Some (p, n) → InFormat p
    bounds h =
        cases (leb 16 (length s)) (λ k. whole (answer_from_bits (of_big_endian (take 8 s)) (of_big_endian (take 8 (drop 8 s))) integer) refl (rw k at h))
        (λ k. none (rw k at h))

-- one parameter more was read
record Added (set : ℕ) (last : Last) (d : Direction) (r : Option (Block × ℕ)) (b : Block) : Type 0 where
  pub base : Block
  pub count : ℕ
  pub part : Interval
  pub before_it : r ≡ Some (base, count)
  pub with_it : b ≡ with_parameter base d part
  pub kept_so : as_queued_at (in_use set d) part ≡ part
  pub held_so : InFormat (recalled last d) → InFormat part

added : (set : ℕ) (last : Last) (s : List ℕ) (d : Direction) (r : Option (Block × ℕ)) (b : Block) (n : ℕ) → add_parameter set last s d r ≡ Some (b, n) → Added set last d r b
unfolding add_parameter
added set last s d (Some (base, count)) b n e = go (parameter_read (in_use set d) (is_integer d) (recalled last d) (drop count s)) refl e
  where
    go : (x : Option (Interval × ℕ)) → parameter_read (in_use set d) (is_integer d) (recalled last d) (drop count s) ≡ x → with_read base d count x ≡ Some (b, n) → Added set last d (Some (base, count)) b
    go (Some (p, m)) f h = record {
      base = base;
      count = count;
      part = p;
      before_it = refl;
      with_it = sym (same_read (with_parameter base d p, count + m) (b, n) h).0;
      kept_so = read_as_queued (in_use set d) (is_integer d) (recalled last d) p (drop count s) m f;
      held_so = λ g. read_format (in_use set d) (is_integer d) (recalled last d) p (drop count s) m g f;
    }
    go None f h = let z : ◌≡◌ {A = ℕ} 0 1 = cc in absurd (omega arith)
added set last s d None b n e = let z : ◌≡◌ {A = ℕ} 0 1 = cc in absurd (omega arith)

-- each parameter is as the queue keeps it
pub record Kept (set : ℕ) (b : Block) : Type 0 where
  pub m : as_queued_at (in_use set D.M) b.m ≡ b.m
  pub n : as_queued_at (in_use set D.N) b.n ≡ b.n
  pub theta : as_queued_at (in_use set D.Theta) b.theta ≡ b.theta
  pub t : as_queued_at (in_use set D.T) b.t ≡ b.t

-- the block's own bounds are values of binary64
pub record Formats (b : Block) : Type 0 where
  pub m : InFormat b.m
  pub n : InFormat b.n
  pub theta : InFormat b.theta
  pub t : InFormat b.t

-- and so are those that are remembered
abbrev pub LastHeld : Last → Type 0
LastHeld l = InFormat l.m × InFormat l.n × InFormat l.theta × InFormat l.t

all_added : (set : ℕ) (last : Last) (s : List ℕ) (r : Option (Block × ℕ)) (b : Block) (n : ℕ) → add_parameters set last s parameters r ≡ Some (b, n) → Kept set b × (LastHeld last → Formats b)
unfolding add_parameters
all_added set last s r b n e =
    let r₁ = add_parameter set last s D.M r in
    let r₂ = add_parameter set last s D.N r₁ in
    let r₃ = add_parameter set last s D.Theta r₂ in
    let t = added set last s D.T r₃ b n e in
    let theta = added set last s D.Theta r₂ t.base t.count t.before_it in
    let n' = added set last s D.N r₁ theta.base theta.count theta.before_it in
    let m = added set last s D.M r n'.base n'.count n'.before_it in
    let all : b ≡ with_parameter (with_parameter (with_parameter (with_parameter m.base D.M m.part) D.N n'.part) D.Theta theta.part) D.T t.part =
    t.with_it
    ∙ ap (λ (x : Block). with_parameter x D.T t.part) (theta.with_it
    ∙ ap (λ (x : Block). with_parameter x D.Theta theta.part) (n'.with_it
    ∙ ap (λ (x : Block). with_parameter x D.N n'.part) m.with_it)) in
    rw all (
      record { m = m.kept_so; n = n'.kept_so; theta = theta.kept_so; t = t.kept_so },
      λ h. record { m = m.held_so h.0; n = n'.held_so h.1; theta = theta.held_so h.2; t = t.held_so h.3 },
    )

read_so : (set : ℕ) (last : Last) (s : List ℕ) (b : Block) (n : ℕ) → decode set last s ≡ Some (b, n) → Kept set b × (LastHeld last → Formats b)
unfolding decode add_direction
read_so set last s b n e = go (add_parameters set last s parameters (place_read last s)) refl e
  where
    go : (r : Option (Block × ℕ)) → add_parameters set last s parameters (place_read last s) ≡ r → add_direction s r ≡ Some (b, n) → Kept set b × (LastHeld last → Formats b)
    go (Some (c, k)) f h =
        cases (ltb k (length s))
        (λ l. (let g = all_added set last s (place_read last s) c k f in directed c k g (rw l at h)))
        (λ l. (let j = rw l at h in let z : ◌≡◌ {A = ℕ} 0 1 = cc in absurd (omega arith)))
      where
        directed : (c : Block) (k : ℕ) → Kept set c × (LastHeld last → Formats c)
            → ◌≡◌ {A = Option (Block × ℕ)} (Some (turned c (get_or s k 0), k + 1)) (Some (b, n)) → Kept set b × (LastHeld last → Formats b)
        directed c k g h =
            let j : turned c (get_or s k 0) ≡ b = (same_read (turned c (get_or s k 0), k + 1) (b, n) h).0 in
            rw (← j) (
              record { m = g.0.m; n = g.0.n; theta = g.0.theta; t = g.0.t },
              λ h. (let f = g.1 h in record { m = f.m; n = f.n; theta = f.theta; t = f.t }),
            )
    go None f h = let z : ◌≡◌ {A = ℕ} 0 1 = cc in absurd (omega arith)

pub read_kept : (set : ℕ) (last : Last) (s : List ℕ) (b : Block) (n : ℕ) → decode set last s ≡ Some (b, n) → Kept set b
read_kept set last s b n e = (read_so set last s b n e).0

pub read_held : (set : ℕ) (last : Last) (s : List ℕ) (b : Block) (n : ℕ) → decode set last s ≡ Some (b, n) → LastHeld last → Formats b
read_held set last s b n e = (read_so set last s b n e).1

-- A BLOCK IS AS IT COMES OUT OF THE QUEUE

fine_part : (used integer : Bool) (p : Interval) → legal_interval p integer ≡ true → as_queued_at used p ≡ p → InFormat p → ParameterFine used integer p
fine_part true integer p l k f = record { proper = λ e. record { legal = l; put = k; format = f }; line = λ e. absurd (true≢false e) }
fine_part false integer p l k f = record { proper = λ e. absurd (false≢true e); line = λ e. sym k }

pub block_fine : (p : Chosen) (b : Block) → sound p b ≡ true → Kept p.set b → Formats b → Fine p.set b
block_fine p b ok k f d = go d
  where
    l : LegalParameters b
    l = (is_sound p b ok).block.parameters

    go : (d : Direction) → ParameterFine (in_use p.set d) (is_integer d) (parameter_of b d)
    go D.XY = line_fine (in_use p.set D.XY)
    go D.M = fine_part (in_use p.set D.M) true b.m l.m k.m f.m
    go D.N = fine_part (in_use p.set D.N) true b.n l.n k.n f.n
    go D.Theta = fine_part (in_use p.set D.Theta) true b.theta l.theta k.theta f.theta
    go D.T = fine_part (in_use p.set D.T) false b.t l.t k.t f.t

-- WHAT THE STEP ASKS OF A BLOCK THAT IT QUEUES, one and each of a list

abbrev pub Ready : ℕ → Block → Type 0
Ready = CanQueue

abbrev pub AllReady : ℕ → List Block → Type 0
AllReady set l = Every (CanQueue set) l

pub ready_can : (set : ℕ) (b : Block) → Ready set b → can_queue set b ≡ true
ready_can = can_test

pub ready_as_queued : (set : ℕ) (b : Block) → Ready set b → as_queued set b ≡ b
ready_as_queued = as_queued_is

pub ready_known : (set : ℕ) (b : Block) → Ready set b → indices_known (remembered b) ≡ true
ready_known set b r = known_test (remembered b) (known_after set b r)
