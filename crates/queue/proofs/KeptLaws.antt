-- Which blocks come out as they went in: those that pass the test, as the queue keeps them; and those that were
-- decoded. Assumes nothing.
use mathlib.Core.Path.{◌≡◌, refl, sym, ◌∙◌}
use mathlib.Core.Bool.{Bool, true, false, not, ◌&&◌, ◌||◌, true≢false, false≢true}
use Prim.Native.Nat.{ℕ, ◌^◌}
use lib.Dec.{lit<, leb, ltb}
use lib.Ieee.{binary64, le}
use lib.Ieee.Fits.{inf-fits}
use borrow.Author.Tests.{lt-ltb, le-leb}
use Rattle.base.proofs.Test.{and_both}
use Rattle.coordinate.specs.declared.Coordinate.{Coordinate}
use Rattle.coordinate.specs.Axis.{ordinary_floor, in_range}
use Rattle.coordinate.specs.Lone.{legal}
use Rattle.coordinate.proofs.PixelLaws.{Ranged}
use Rattle.interval.specs.declared.Interval.{Interval}
use Rattle.interval.specs.Bounds.{InFormat, whole_bound, legal_interval, zero_as, put_interval}
use Rattle.interval.proofs.Legality.{put_again, put_legal}
use Rattle.interval.proofs.ProperPieces.{put_format}
use Rattle.queue.specs.declared.Block.{Block}
use Rattle.queue.specs.declared.Last.{Last}
use Rattle.queue.specs.declared.directions.Direction.{Direction}
use Rattle.queue.specs.declared.directions.Direction.TheVariants as D
use Rattle.queue.specs.Directions.{in_use}
use Rattle.queue.specs.Block.{whole_line, is_integer, parameter_of, recalled, as_queued_at, as_queued, remembered}
use Rattle.queue.specs.Block.{starting_last}
use Rattle.queue.specs.Code.{can_queue, indices_known}
use Rattle.queue.proofs.QueueableLaws.{Tested, queueable}
use Rattle.queue.proofs.RoundTrip.{ParameterFine, CanQueue, Known}

line_format : InFormat whole_line
line_format = (inf-fits binary64 true, inf-fits binary64 false)

pub line_legal : (integer : Bool) → legal_interval whole_line integer ≡ true
unfolding legal_interval le whole_bound
line_legal true = refl
line_legal false = refl

line_put : put_interval whole_line ≡ whole_line
unfolding put_interval zero_as
line_put = refl

fine_format : (used integer : Bool) (p : Interval) → ParameterFine used integer p → InFormat p
fine_format true integer p f = (f.proper refl).format
fine_format false integer p f = rw (f.line refl) line_format

pub recalled_is : (b : Block) (d : Direction) → recalled (remembered b) d ≡ parameter_of b d
unfolding remembered
recalled_is b D.XY = refl
recalled_is b D.M = refl
recalled_is b D.N = refl
recalled_is b D.Theta = refl
recalled_is b D.T = refl

-- what is remembered of such a block is what a block can have left
pub known_after : (set : ℕ) (b : Block) → CanQueue set b → Known (remembered b)
unfolding remembered
known_after set b c =
    record {
      x = c.x.bound;
      y = c.y.bound;
      format = λ d. rw (recalled_is b d) (fine_format (in_use set d) (is_integer d) (parameter_of b d) (c.fine d));
    }

-- and so are the starting values
pub known_start : Known starting_last
unfolding starting_last
known_start = record { x = lit< tt; y = lit< tt; format = λ d. format d }
  where
    format : (d : Direction) → InFormat (recalled starting_last d)
    format D.XY = line_format
    format D.M = line_format
    format D.N = line_format
    format D.Theta = line_format
    format D.T = line_format

-- ---- the tests

-- remembered values that a block can have left pass the test
pub known_test : (last : Last) → Known last → indices_known last ≡ true
unfolding indices_known
known_test last k =
    and_both (ltb last.x (2 ^ 47)) (ltb last.y (2 ^ 47)) (lt-ltb last.x (2 ^ 47) k.x)
    (lt-ltb last.y (2 ^ 47) k.y)

legal_test : (used integer : Bool) (p : Interval) → ParameterFine used integer p
    → not used || legal_interval p integer ≡ true
legal_test true integer p f = (f.proper refl).legal
legal_test false integer p f = refl

range_test : (c : Coordinate) → Ranged 16 c.rank c.index → legal ordinary_floor c ≡ true
unfolding in_range
range_test c r =
    and_both (leb 16 c.rank && ltb c.rank 64) (ltb c.index (2 ^ 47))
    (and_both (leb 16 c.rank) (ltb c.rank 64) (le-leb 16 c.rank r.low) (lt-ltb c.rank 64 r.high))
    (lt-ltb c.index (2 ^ 47) r.bound)

pub can_test : (set : ℕ) (b : Block) → CanQueue set b → can_queue set b ≡ true
unfolding can_queue
can_test set b c =
    rw (
      range_test b.x c.x,
      range_test b.y c.y,
      legal_test (in_use set D.M) true b.m (c.fine D.M),
      legal_test (in_use set D.N) true b.n (c.fine D.N),
      legal_test (in_use set D.Theta) true b.theta (c.fine D.Theta),
      legal_test (in_use set D.T) false b.t (c.fine D.T),
    )

-- the queue keeps such a block as it is
as_queued_at_lem : (used integer : Bool) (p : Interval) → ParameterFine used integer p → as_queued_at used p ≡ p
as_queued_at_lem true integer p f = (f.proper refl).put
as_queued_at_lem false integer p f = sym (f.line refl)

pub as_queued_is : (set : ℕ) (b : Block) → CanQueue set b → as_queued set b ≡ b
unfolding as_queued
as_queued_is set b c =
    rw (
      as_queued_at_lem (in_use set D.M) true b.m (c.fine D.M),
      as_queued_at_lem (in_use set D.N) true b.n (c.fine D.N),
      as_queued_at_lem (in_use set D.Theta) true b.theta (c.fine D.Theta),
      as_queued_at_lem (in_use set D.T) false b.t (c.fine D.T),
    )

-- a block that passes the test and whose parameters are f64s comes out as the queue keeps it
fine_as_queued : (used integer : Bool) (p : Interval) → InFormat p → not used || legal_interval p integer ≡ true
    → ParameterFine used integer (as_queued_at used p)
fine_as_queued true integer p f e =
    record {
      proper = λ q. record { legal = put_legal p integer ∙ e; put = put_again p; format = put_format p f };
      line = λ q. absurd (true≢false q);
    }
fine_as_queued false integer p f e = record { proper = λ q. absurd (false≢true q); line = λ q. refl }

pub line_fine : (used : Bool) → ParameterFine used false whole_line
line_fine used =
    record {
      proper = λ q. record { legal = line_legal false; put = line_put; format = line_format };
      line = λ q. refl;
    }

pub can_queue_lem : (set : ℕ) (b : Block) → can_queue set b ≡ true → ((d : Direction) → InFormat (parameter_of b d))
    → CanQueue set (as_queued set b)
unfolding as_queued
can_queue_lem set b e f =
    let t = queueable set b e in
    record { x = t.x; y = t.y; fine = λ d. each d t }
  where
    each : (d : Direction) → Tested set b → ParameterFine (in_use set d) (is_integer d) (parameter_of (as_queued set b) d)
    each D.XY t = line_fine (in_use set D.XY)
    each D.M t = fine_as_queued (in_use set D.M) true b.m (f D.M) t.m
    each D.N t = fine_as_queued (in_use set D.N) true b.n (f D.N) t.n
    each D.Theta t = fine_as_queued (in_use set D.Theta) true b.theta (f D.Theta) t.theta
    each D.T t = fine_as_queued (in_use set D.T) false b.t (f D.T) t.t

-- ---- what is remembered is legal

pub fine_legal : (used integer : Bool) (p : Interval) → ParameterFine used integer p → legal_interval p integer ≡ true
fine_legal true integer p f = (f.proper refl).legal
fine_legal false integer p f = rw (f.line refl) (line_legal integer)

pub legal_after : (set : ℕ) (b : Block) → CanQueue set b → (d : Direction)
    → legal_interval (recalled (remembered b) d) (is_integer d) ≡ true
legal_after set b c d = rw (recalled_is b d) (fine_legal (in_use set d) (is_integer d) (parameter_of b d) (c.fine d))

pub legal_start : (d : Direction) → legal_interval (recalled starting_last d) (is_integer d) ≡ true
unfolding starting_last
legal_start D.XY = line_legal false
legal_start D.M = line_legal true
legal_start D.N = line_legal true
legal_start D.Theta = line_legal true
legal_start D.T = line_legal false
