-- The blocks that a step queues are siblings: a cut of x and y makes four at most, whose indices have one half, and leaves every parameter; a cut of a
-- parameter makes three at most, and leaves all but that one. So what a step adds to the bytes used is bounded. Assumes nothing.
use Rattle.std.specs.Prelude.{Option, Some, None}
use mathlib.Core.Path.{◌≡◌, refl, ap, ◌∙◌}
use mathlib.Core.Bool.{true, cond}
use mathlib.Core.List.{List, [], ◌∷◌}
use Prim.Native.Nat.{ℕ, suc, ◌+◌, ◌*◌, ◌/◌, ◌≤◌, ◌<◌}
use native.Mathlib.Nat.{mul-le-mul_right}
use native.Mathlib.Decide.{ℕ_discrete}
use native.Mathlib.Omega.{arith}
use lib.Dec.{ltb, eqb}
use lib.ListN.{length}
use borrow.Author.Tests.{ltb-true, eq-eqb, ne_eqb}
use Rattle.base.specs.Event.{queued_by}
use Rattle.base.proofs.Test.{by_test}
use Rattle.base.specs.Lists.{Every}
use Rattle.base.proofs.ListLaws.{every_all, every_also, every_map}
use Rattle.coordinate.specs.declared.Coordinate.{Coordinate}
use Rattle.coordinate.specs.Axis.{ordinary_floor}
use Rattle.coordinate.specs.Lone.{low_half, high_half}
use Rattle.interval.specs.declared.Interval.{Interval}
use Rattle.interval.specs.Bounds.{put_interval}
use Rattle.interval.specs.Cuts.{later_cut}
use Rattle.queue.specs.declared.Block.{Block}
use Rattle.queue.specs.declared.directions.Direction.{Direction}
use Rattle.queue.specs.declared.directions.Direction.TheVariants as D
use Rattle.queue.specs.Directions.{in_use}
use Rattle.queue.specs.Block.{is_integer, parameter_of, with_parameter}
use Rattle.decide.specs.declared.Chosen.{Chosen}
use Rattle.decide.specs.Turn.{Turned}
use Rattle.decide.specs.Turn as T
use Rattle.decide.specs.declared.verdict.Outcome.{Outcome}
use Rattle.decide.specs.Damage.{sound, direction_of}
use Rattle.decide.specs.Verdict.{is_incomplete}
use Rattle.decide.specs.Children.{moved_to, quarters_of, begins_inside, kept_inside, children_xy, children_cut, children_along, children_of}
use Rattle.decide.specs.Turn.{turned_to, turned}
use Rattle.decide.proofs.DamageLaws.{is_sound}
use Rattle.decide.proofs.ListingLaws.{cut_along, cut_count, kept_few}
use Rattle.plan.specs.Plan.{incomplete_count, turn_event, turn_events, events_for}
use Rattle.plan.proofs.ChildLaws.{direction_in_use}
use Rattle.plan.proofs.PlaceLaws.{QuarterOf, each_kept, quarters_are}
use Rattle.plan.proofs.QueuedLaws.{turns}
use Rattle.plan.proofs.JudgedLaws.{marks_queue_none}
use Rattle.plan.proofs.EventLaws.{each_queued}
use Rattle.implicit.specs.Room.{parameter_count, step_growth}
use Rattle.promises.proofs.CodesFew.{Sibling, extra, counts_four, counts_some, needs}

-- how many siblings a cut makes at most
abbrev pub siblings_most : Direction → ℕ
siblings_most D.XY = 4
siblings_most D.M = 3
siblings_most D.N = 3
siblings_most D.Theta = 3
siblings_most D.T = 3

-- blocks that a cut of b makes, with whatever direction
pub record Siblings (set : ℕ) (b : Block) (l : List Block) : Type 0 where
  pub along : Direction
  pub i : ℕ
  pub j : ℕ
  pub each : Every (Sibling i j along b) l
  pub few : length l ≤ siblings_most along
  pub used : needs along ≤ parameter_count set

-- WHAT A CUT LEAVES

same_piece : (b : Block) (d : Direction) (q : Interval) (e : Direction) → ¬ (e ≡ d) → parameter_of (with_parameter b d q) e ≡ parameter_of b e
same_piece b D.XY q e n = refl
same_piece b D.M q D.XY n = refl
same_piece b D.M q D.M n = absurd (n refl)
same_piece b D.M q D.N n = refl
same_piece b D.M q D.Theta n = refl
same_piece b D.M q D.T n = refl
same_piece b D.N q D.XY n = refl
same_piece b D.N q D.M n = refl
same_piece b D.N q D.N n = absurd (n refl)
same_piece b D.N q D.Theta n = refl
same_piece b D.N q D.T n = refl
same_piece b D.Theta q D.XY n = refl
same_piece b D.Theta q D.M n = refl
same_piece b D.Theta q D.N n = refl
same_piece b D.Theta q D.Theta n = absurd (n refl)
same_piece b D.Theta q D.T n = refl
same_piece b D.T q D.XY n = refl
same_piece b D.T q D.M n = refl
same_piece b D.T q D.N n = refl
same_piece b D.T q D.Theta n = refl
same_piece b D.T q D.T n = absurd (n refl)

same_moved : (b : Block) (x y : Coordinate) (e : Direction) → parameter_of (moved_to b x y) e ≡ parameter_of b e
same_moved b x y D.XY = refl
same_moved b x y D.M = refl
same_moved b x y D.N = refl
same_moved b x y D.Theta = refl
same_moved b x y D.T = refl

same_turned : (c : Block) (n : ℕ) (e : Direction) → parameter_of (turned_to c n) e ≡ parameter_of c e
same_turned c n D.XY = refl
same_turned c n D.M = refl
same_turned c n D.N = refl
same_turned c n D.Theta = refl
same_turned c n D.T = refl

-- THE CHILDREN

module _ (p : Chosen) (b : Block) (ok : sound p b ≡ true) where
  abbrev Piece : Direction → Block → Type 0
  Piece d = Sibling (b.x.index / 2) (b.y.index / 2) d b

  -- along a parameter
  pieces : (d : Direction) → siblings_most d ≡ 3 → in_use p.set d ≡ true → Siblings p.set b (children_cut b d)
  unfolding children_cut
  pieces d three u =
      let l = later_cut (put_interval (parameter_of b d)) (is_integer d) in
      record {
        along = d;
        i = b.x.index / 2;
        j = b.y.index / 2;
        each = every_map (λ (q : Interval). Unit {0}) (Piece d) (with_parameter b d) (λ q t. piece q) l (every_all (λ (q : Interval). Unit {0}) (λ q. tt) l);
        few = omega (arith, three, (cut_count b d).1);
        used = counts_some p.set d u;
      }
    where
      piece : (q : Interval) → Piece d (with_parameter b d q)
      piece q = record { x = in_x d; y = in_y d; same = same_piece b d q }
        where
          in_x : (e : Direction) → (with_parameter b e q).x.index / 2 ≡ b.x.index / 2
          in_x D.XY = refl
          in_x D.M = refl
          in_x D.N = refl
          in_x D.Theta = refl
          in_x D.T = refl

          in_y : (e : Direction) → (with_parameter b e q).y.index / 2 ≡ b.y.index / 2
          in_y D.XY = refl
          in_y D.M = refl
          in_y D.N = refl
          in_y D.Theta = refl
          in_y D.T = refl

  abbrev Quarter : Block → Type 0
  Quarter = Sibling b.x.index b.y.index D.XY b

  -- along x and y
  quartered : 0 < b.x.rank → Siblings p.set b (children_xy p b)
  unfolding children_xy quarters_of
  quartered up =
      let z = quarters_are b up (is_sound p b ok).block.ranks in
      let q : Every Quarter (quarters_of b) = (
        quarter z.0 (same_moved b (low_half b.x) (low_half b.y)),
        (
          quarter z.1.0 (same_moved b (high_half b.x) (low_half b.y)),
          (
            quarter z.1.1.0 (same_moved b (low_half b.x) (high_half b.y)),
            (quarter z.1.1.1.0 (same_moved b (high_half b.x) (high_half b.y)), tt),
          ),
        ),
      ) in
      let inside : Every (λ c. begins_inside p c ≡ true → Quarter c) (quarters_of b) =
      every_also Quarter (λ c. begins_inside p c ≡ true → Quarter c) (λ c s t. s) (quarters_of b) q in
      record {
        along = D.XY;
        i = b.x.index;
        j = b.y.index;
        each = by_test (Every Quarter) (ltb 48 b.x.rank) (kept_inside p (quarters_of b)) (quarters_of b)
            (λ e. each_kept p Quarter (quarters_of b) inside) (λ e. q);
        few = by_test (λ m. length m ≤ 4) (ltb 48 b.x.rank) (kept_inside p (quarters_of b)) (quarters_of b)
            (λ e. omega (arith, kept_few p (quarters_of b))) (λ e. omega arith);
        used = omega arith;
      }
    where
      quarter : {c : Block} → QuarterOf b c → ((e : Direction) → parameter_of c e ≡ parameter_of b e) → Quarter c
      quarter z s = record { x = z.x_index; y = z.y_index; same = λ e n. s e }

  by_direction : (a : Option Direction) → direction_of p b ≡ a → Siblings p.set b (children_along p b a)
  by_direction (Some D.XY) e = quartered (omega (arith, ltb-true ordinary_floor b.x.rank (cut_along p b D.XY ok e refl)))
  by_direction (Some D.M) e = pieces D.M refl (direction_in_use p b D.M e)
  by_direction (Some D.N) e = pieces D.N refl (direction_in_use p b D.N e)
  by_direction (Some D.Theta) e = pieces D.Theta refl (direction_in_use p b D.Theta e)
  by_direction (Some D.T) e = pieces D.T refl (direction_in_use p b D.T e)
  by_direction None e = record {
    along = D.XY;
    i = b.x.index / 2;
    j = b.y.index / 2;
    each = (record { x = refl; y = refl; same = λ d n. refl }, tt);
    few = omega arith;
    used = omega arith;
  }

  children : Siblings p.set b (children_of p b)
  unfolding children_of
  children = rw ok (by_direction (direction_of p b) refl)

  -- THOSE THAT A STEP QUEUES, each with a direction

  queued_few : (turn : Block → Turned) (cs : List Block) (os : List Outcome) → length (queued_by (turn_events turn cs os)) ≤ length cs
  unfolding turn_events queued_by
  queued_few turn [] os = omega arith
  queued_few turn (c ∷ cs) [] = omega arith
  queued_few turn (c ∷ cs) (o ∷ os) =
      let ih = queued_few turn cs os in
      by_test (λ l. length (queued_by l) ≤ suc (length cs)) (is_incomplete o) (turn_event (turn c) ∷ turn_events turn cs os) (turn_events turn cs os)
      (λ e. go (turn c) ih) (λ e. omega arith)
    where
      go : (t : Turned) → length (queued_by (turn_events turn cs os)) ≤ length cs → length (queued_by (turn_event t ∷ turn_events turn cs os)) ≤ suc (length cs)
      go (T.To d) h = omega arith
      go T.Nowhere h = omega arith

  still_sibling : (i j : ℕ) (d : Direction) (c : Block) (n : ℕ) (v : Block) → v ≡ turned_to c n → Sibling i j d b c → Sibling i j d b v
  still_sibling i j d c n v e s = record {
    x = ap (λ (u : Block). u.x.index / 2) e ∙ s.x;
    y = ap (λ (u : Block). u.y.index / 2) e ∙ s.y;
    same = λ f k. ap (λ (u : Block). parameter_of u f) e ∙ same_turned c n f ∙ s.same f k;
  }

  pub queued_siblings : (os : List Outcome) → Siblings p.set b (queued_by (events_for p b (children_of p b) os))
  unfolding events_for
  queued_siblings os =
      let s = children in
      let turn = turned p b (incomplete_count os) in
      rw (marks_queue_none (children_of p b) os (turn_events (turned p b (incomplete_count os)) (children_of p b) os))
      (record {
        along = s.along;
        i = s.i;
        j = s.j;
        each = each_queued (Sibling s.i s.j s.along b) (Sibling s.i s.j s.along b) turn
            (λ c v k e. still_sibling s.i s.j s.along c v.dir v (turns p b (incomplete_count os) c v e).same k) (children_of p b) os s.each;
        few = omega (arith, queued_few turn (children_of p b) os, s.few);
        used = s.used;
      })

-- THE SUM, with u parameters and n siblings behind the first

quarters_sum : (u n bytes : ℕ) → u ≤ 4 → n ≤ 3 → bytes ≤ 17 + 16 * u + n * (5 + 2 * u + 0) → bytes ≤ cond (eqb u 0) 27 (50 + 18 * u) + 5 + 2 * u
quarters_sum u n bytes few k h =
    let m = mul-le-mul_right {m = n} {n = 3} (5 + 2 * u + 0) k in
    elim (ℕ_discrete u 0) [
      | yes z ↦ rw (eq-eqb u 0 z) (omega (arith, m, h))
      | no z ↦ rw (ne_eqb u 0 z) (omega (arith, m, h))
    ]

pieces_sum : (u n bytes : ℕ) → 1 ≤ u → n ≤ 2 → bytes ≤ 17 + 16 * u + n * (5 + 2 * u + 14) → bytes ≤ cond (eqb u 0) 27 (50 + 18 * u) + 5 + 2 * u
pieces_sum u n bytes some k h =
    let m = mul-le-mul_right {m = n} {n = 2} (5 + 2 * u + 14) k in
    rw (ne_eqb u 0 (λ z. omega arith)) (omega (arith, m, h))

-- so siblings take what a step adds, and what the code of the block that was taken had at least
pub in_all : (set : ℕ) (d : Direction) (n bytes : ℕ) → suc n ≤ siblings_most d → needs d ≤ parameter_count set
    → bytes ≤ 17 + 16 * parameter_count set + n * (5 + 2 * parameter_count set + extra d) → bytes ≤ step_growth set + 5 + 2 * parameter_count set
unfolding step_growth
in_all set D.XY n bytes k s h = quarters_sum (parameter_count set) n bytes (counts_four set) (omega arith) h
in_all set D.M n bytes k s h = pieces_sum (parameter_count set) n bytes s (omega arith) h
in_all set D.N n bytes k s h = pieces_sum (parameter_count set) n bytes s (omega arith) h
in_all set D.Theta n bytes k s h = pieces_sum (parameter_count set) n bytes s (omega arith) h
in_all set D.T n bytes k s h = pieces_sum (parameter_count set) n bytes s (omega arith) h
