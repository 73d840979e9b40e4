-- What is remembered of queued blocks: its zeros are put, and it is sound. Assumes nothing.
use mathlib.Core.Path.{◌≡◌, refl}
use mathlib.Core.Bool.{Bool, true, false}
use mathlib.Core.List.{List, [], ◌∷◌}
use Prim.Native.Nat.{ℕ}
use Rattle.base.specs.Lists.{Every}
use Rattle.interval.specs.declared.Interval.{Interval}
use Rattle.interval.specs.Bounds.{put_interval}
use Rattle.interval.proofs.ProperPieces.{line_proper}
use Rattle.queue.specs.declared.Block.{Block}
use Rattle.queue.specs.declared.Last.{Last}
use Rattle.queue.specs.declared.directions.Direction.TheVariants as D
use Rattle.queue.specs.Directions.{in_use}
use Rattle.queue.specs.Block.{remembered, starting_last}
use Rattle.queue.specs.Queue.{memory}
use Rattle.queue.proofs.RoundTrip.{ParameterFine, CanQueue}
use Rattle.decide.specs.declared.Chosen.{Chosen}
use Rattle.decide.specs.Damage.{undamaged}
use Rattle.implicit.specs.Record.{sound_last, put_last}
use Rattle.implicit.proofs.RecordLaws.{remembered_sound}

-- the zeros are put already
abbrev pub Put : Last → Type 0
Put l = put_last l ≡ l

fine_put : (used integer : Bool) (x : Interval) → ParameterFine used integer x → put_interval x ≡ x
fine_put true integer x f = (f.proper refl).put
fine_put false integer x f = rw (f.line refl) (line_proper integer).put

pub remembered_put : (set : ℕ) (b : Block) → CanQueue set b → Put (remembered b)
unfolding put_last remembered
remembered_put set b c =
    rw (
      fine_put (in_use set D.M) true b.m (c.fine D.M),
      fine_put (in_use set D.N) true b.n (c.fine D.N),
      fine_put (in_use set D.Theta) true b.theta (c.fine D.Theta),
      fine_put (in_use set D.T) false b.t (c.fine D.T),
    )

pub starting_put : Put starting_last
unfolding put_last starting_last
starting_put = rw (line_proper true).put

pub memory_put : (set : ℕ) (last : Last) (q : List Block) → Put last → Every (CanQueue set) q → Put (memory last q)
unfolding memory
memory_put set last [] h k = h
memory_put set last (b ∷ q) h k = memory_put set (remembered b) q (remembered_put set b k.0) k.1

pub memory_sound : (p : Chosen) (last : Last) (q : List Block) → sound_last last ≡ true → Every (λ b. undamaged p b ≡ true) q → sound_last (memory last q) ≡ true
unfolding memory
memory_sound p last [] h k = h
memory_sound p last (b ∷ q) h k = memory_sound p (remembered b) q (remembered_sound p b k.0) k.1
