-- What every child of an undamaged block of a legal picture has: its place inside the picture, its ranges, its parameters. Assumes nothing.
use Rattle.std.specs.Prelude.{Option, Some, None}
use mathlib.Core.Path.{◌≡◌, refl, sym, ap, ◌∙◌}
use mathlib.Core.Bool.{Bool, true, false, cond, true≢false}
use mathlib.Core.List.{List, [], ◌∷◌}
use Prim.Native.Nat.{ℕ, zero, suc, ◌-◌, ◌*◌, ◌/◌, ◌^◌, ◌≤◌, ◌<◌}
use native.Mathlib.Omega.{arith}
use lib.Dec.{ltb}
use lib.ListN.{length}
use borrow.Author.Tests.{ltb-true, ltb-false, lt-ltb}
use Rattle.base.proofs.Test.{cases, by_test, and_left, and_right, and_both}
use Rattle.base.specs.Lists.{Every}
use Rattle.base.proofs.ListLaws.{every_also, every_both, every_map}
use Rattle.coordinate.specs.declared.Coordinate.{Coordinate}
use Rattle.coordinate.specs.Axis.{ordinary_floor, above_floor, inside}
use Rattle.coordinate.specs.Lone.{low_half, high_half}
use Rattle.coordinate.proofs.PixelLaws.{inside_pixel, inside_in_range, ranged}
use Rattle.coordinate.proofs.CoverLaws.{half_pixel}
use Rattle.interval.specs.declared.Interval.{Interval}
use Rattle.interval.specs.Bounds.{legal_interval, put_interval}
use Rattle.interval.specs.Cuts.{later_cut}
use Rattle.interval.proofs.Legality.{put_legal}
use Rattle.interval.proofs.ProperPieces.{Proper, put_format, line_proper}
use Rattle.interval.proofs.LaterCut.{later_proper}
use Rattle.queue.specs.declared.Block.{Block}
use Rattle.queue.specs.declared.directions.Direction.{Direction}
use Rattle.queue.specs.declared.directions.Direction.TheVariants as D
use Rattle.queue.specs.Directions.{in_use, used_of, directions, parameters, direction_at}
use Rattle.queue.specs.Block.{is_integer, parameter_of, with_parameter}
use Rattle.queue.proofs.RoundTrip.{ParameterFine, CanQueue}
use Rattle.decide.specs.declared.Chosen.{Chosen}
use Rattle.decide.specs.Damage.{sound, direction_of}
use Rattle.decide.specs.Children.{moved_to, quarters_of, begins_inside, kept_inside, children_xy, children_cut, children_along, children_of}
use Rattle.decide.proofs.DamageLaws.{Placed, LegalParameters, Sound, is_sound}
use Rattle.decide.proofs.ListingLaws.{low_begins, cut_along, cut_count, unsound}
use Rattle.plan.proofs.PlaceLaws.{InPlace, QuarterOf, Lies, stays, quarters, each_kept, quarters_are, cut_in_place}

-- WHERE THEY LIE

-- a child's place: its parent's or a quarter of it, in the ranges and inside the picture; its direction byte is still its parent's
pub record ChildPlace (p : Chosen) (b c : Block) : Type 0 where
  pub lies : Lies b c
  pub ranks : c.x.rank ≡ c.y.rank
  pub x : Placed p.width c.x
  pub y : Placed p.height c.y
  pub dir : c.dir ≡ b.dir

-- from level 0 down a half begins in its whole's pixel, so it begins inside too
half_inside : (side rank i whole j : ℕ) → suc rank ≡ whole → i / 2 ≡ j → rank < 48 → inside side whole j ≡ true → inside side rank i ≡ true
half_inside side rank i whole j e f h t =
    let g : inside side (suc rank) (i / 2) ≡ true = rw (e, f) t in
    inside_pixel side rank i ∙ ap (λ (n : ℕ). ltb n side) (half_pixel rank i h) ∙ sym (inside_pixel side (suc rank) (i / 2)) ∙ g

module _ (p : Chosen) (b : Block) (ok : sound p b ≡ true) where
  s : Sound p b
  s = is_sound p b ok

  placed_quarter : above_floor ordinary_floor b.x.rank ≡ true → (c : Block) → QuarterOf b c → begins_inside p c ≡ true → ChildPlace p b c
  placed_quarter up c q t =
      let k = ltb-true ordinary_floor b.x.rank up in
      let r = s.block.ranks in
      let m = (ranged ordinary_floor b.x.rank b.x.index s.block.x.in_ranges).high in
      let ix = and_left (inside p.width c.x.rank c.x.index) (inside p.height c.y.rank c.y.index) t in
      let iy = and_right (inside p.width c.x.rank c.x.index) (inside p.height c.y.rank c.y.index) t in
      let xr = q.x_rank in
      let yr = q.y_rank in
      record {
        lies = quarters q;
        ranks = omega arith;
        x = record { in_ranges = inside_in_range p.width ordinary_floor c.x.rank c.x.index s.chosen.width_most (omega arith) (omega arith) ix; inside_side = ix };
        y = record { in_ranges = inside_in_range p.height ordinary_floor c.y.rank c.y.index s.chosen.height_most (omega arith) (omega arith) iy; inside_side = iy };
        dir = q.dir;
      }

  quarter_begins : b.x.rank ≤ 48 → (c : Block) → QuarterOf b c → begins_inside p c ≡ true
  quarter_begins h c q =
      let r = s.block.ranks in
      let xr = q.x_rank in
      let yr = q.y_rank in
      and_both (inside p.width c.x.rank c.x.index) (inside p.height c.y.rank c.y.index)
      (half_inside p.width c.x.rank c.x.index b.x.rank b.x.index xr q.x_index (omega arith) s.block.x.inside_side)
      (half_inside p.height c.y.rank c.y.index b.y.rank b.y.index yr q.y_index (omega arith) s.block.y.inside_side)

  xy_placed : above_floor ordinary_floor b.x.rank ≡ true → Every (ChildPlace p b) (children_xy p b)
  unfolding children_xy
  xy_placed up =
      let k = ltb-true ordinary_floor b.x.rank up in
      let q = quarters_are b (omega arith) s.block.ranks in
      by_test (Every (ChildPlace p b)) (ltb 48 b.x.rank) (kept_inside p (quarters_of b)) (quarters_of b)
      (λ e. each_kept p (ChildPlace p b) (quarters_of b) (every_also (QuarterOf b) (λ c. begins_inside p c ≡ true → ChildPlace p b c) (placed_quarter up) (quarters_of b) q))
      (λ e. every_also (QuarterOf b) (ChildPlace p b) (λ c z. placed_quarter up c z (quarter_begins (ltb-false 48 b.x.rank e) c z)) (quarters_of b) q)

  placed_stays : (c : Block) → InPlace b c → ChildPlace p b c
  placed_stays c i = record { lies = stays i; ranks = rw (i.x, i.y) s.block.ranks; x = rw i.x s.block.x; y = rw i.y s.block.y; dir = i.dir }

  cut_placed : (d : Direction) → Every (ChildPlace p b) (children_cut b d)
  cut_placed d = every_also (InPlace b) (ChildPlace p b) placed_stays (children_cut b d) (cut_in_place b d)

  along_placed : (a : Option Direction) → direction_of p b ≡ a → Every (ChildPlace p b) (children_along p b a)
  along_placed (Some D.XY) e = xy_placed (cut_along p b D.XY ok e refl)
  along_placed (Some D.M) e = cut_placed D.M
  along_placed (Some D.N) e = cut_placed D.N
  along_placed (Some D.Theta) e = cut_placed D.Theta
  along_placed (Some D.T) e = cut_placed D.T
  along_placed None e = (placed_stays b record { x = refl; y = refl; dir = refl }, tt)

  pub children_placed : Every (ChildPlace p b) (children_of p b)
  unfolding children_of
  children_placed = rw ok (along_placed (direction_of p b) refl)

  -- THERE IS ONE

  -- the quarter at both low halves begins where its parent begins
  first_begins : above_floor ordinary_floor b.x.rank ≡ true → begins_inside p (moved_to b (low_half b.x) (low_half b.y)) ≡ true
  first_begins up =
      and_both (inside p.width (b.x.rank - 1) (2 * b.x.index)) (inside p.height (b.y.rank - 1) (2 * b.y.index))
      (low_begins p.width b.x s.block.x up) (low_begins p.height b.y s.block.y (rw (← s.block.ranks) up))

  xy_some : above_floor ordinary_floor b.x.rank ≡ true → 1 ≤ length (children_xy p b)
  unfolding children_xy quarters_of kept_inside
  xy_some up =
      by_test (λ l. 1 ≤ length l) (ltb 48 b.x.rank) (kept_inside p (quarters_of b)) (quarters_of b)
      (λ e. rw (first_begins up) (omega arith)) (λ e. omega arith)

  along_some : (a : Option Direction) → direction_of p b ≡ a → 1 ≤ length (children_along p b a)
  along_some (Some D.XY) e = xy_some (cut_along p b D.XY ok e refl)
  along_some (Some D.M) e = (cut_count b D.M).0
  along_some (Some D.N) e = (cut_count b D.N).0
  along_some (Some D.Theta) e = (cut_count b D.Theta).0
  along_some (Some D.T) e = (cut_count b D.T).0
  along_some None e = omega arith

  -- a sound block has a child
  pub children_some : 1 ≤ length (children_of p b)
  unfolding children_of
  children_some = rw ok (along_some (direction_of p b) refl)

-- and a damaged one none, so that their number tells
pub some_child : (p : Chosen) (b : Block) → ltb 0 (length (children_of p b)) ≡ sound p b
some_child p b =
    cases (sound p b) (λ ok. lt-ltb 0 (length (children_of p b)) (children_some p b ok) ∙ sym ok) (λ bad. ap (λ (l : List Block). ltb 0 (length l)) (unsound p b bad) ∙ sym bad)

-- WHICH PARAMETERS THEY HAVE

-- a direction that a place names is in use
pub named_in_use : (set : ℕ) (ds : List Direction) (at : ℕ) (d : Direction) → direction_at (used_of set ds) at ≡ Some d → in_use set d ≡ true
unfolding used_of direction_at
named_in_use set [] at d e = let z : ◌≡◌ {A = ℕ} 0 1 = cc in absurd (omega arith)
named_in_use set (c ∷ ds) at d e = go (in_use set c) refl at (λ n. named_in_use set ds n d) e
  where
    go : (t : Bool) → in_use set c ≡ t → (n : ℕ) → ((m : ℕ) → direction_at (used_of set ds) m ≡ Some d → in_use set d ≡ true)
        → direction_at (cond t (c ∷ used_of set ds) (used_of set ds)) n ≡ Some d → in_use set d ≡ true
    go true f zero ih g = let h : c ≡ d = cc in rw (← h) f
    go true f (suc n) ih g = ih n g
    go false f n ih g = ih n g

pub direction_in_use : (p : Chosen) (b : Block) (d : Direction) → direction_of p b ≡ Some d → in_use p.set d ≡ true
unfolding directions
direction_in_use p b d e = named_in_use p.set (D.XY ∷ parameters) b.dir d e

-- the parameters of a block come out of the queue as they went in: used ones legal, put and of f64s, unused ones the whole line
abbrev pub Fine : ℕ → Block → Type 0
Fine set b = (d : Direction) → ParameterFine (in_use set d) (is_integer d) (parameter_of b d)

-- so all are legal
fine_legal : (used integer : Bool) (q : Interval) → ParameterFine used integer q → legal_interval q integer ≡ true
fine_legal true integer q f = (f.proper refl).legal
fine_legal false integer q f = rw (f.line refl) (line_proper integer).legal

pub fine_parameters : (set : ℕ) (b : Block) → Fine set b → LegalParameters b
fine_parameters set b f =
    record {
      m = fine_legal (in_use set D.M) true b.m (f D.M);
      n = fine_legal (in_use set D.N) true b.n (f D.N);
      theta = fine_legal (in_use set D.Theta) true b.theta (f D.Theta);
      t = fine_legal (in_use set D.T) false b.t (f D.T);
    }

fine_moved : (set : ℕ) (b : Block) (x y : Coordinate) → Fine set b → Fine set (moved_to b x y)
fine_moved set b x y f D.XY = f D.XY
fine_moved set b x y f D.M = f D.M
fine_moved set b x y f D.N = f D.N
fine_moved set b x y f D.Theta = f D.Theta
fine_moved set b x y f D.T = f D.T

-- a piece of a used parameter is fine
piece_fine : (set : ℕ) (d : Direction) (q : Interval) → in_use set d ≡ true → Proper (is_integer d) q → ParameterFine (in_use set d) (is_integer d) q
piece_fine set d q u z = record { proper = λ e. z; line = λ e. absurd (true≢false (sym u ∙ e)) }

fine_piece : (set : ℕ) (b : Block) (e : Direction) (q : Interval) → in_use set e ≡ true → Fine set b → Proper (is_integer e) q → Fine set (with_parameter b e q)
fine_piece set b D.XY q u f z d = f d
fine_piece set b D.M q u f z D.XY = f D.XY
fine_piece set b D.M q u f z D.M = piece_fine set D.M q u z
fine_piece set b D.M q u f z D.N = f D.N
fine_piece set b D.M q u f z D.Theta = f D.Theta
fine_piece set b D.M q u f z D.T = f D.T
fine_piece set b D.N q u f z D.XY = f D.XY
fine_piece set b D.N q u f z D.M = f D.M
fine_piece set b D.N q u f z D.N = piece_fine set D.N q u z
fine_piece set b D.N q u f z D.Theta = f D.Theta
fine_piece set b D.N q u f z D.T = f D.T
fine_piece set b D.Theta q u f z D.XY = f D.XY
fine_piece set b D.Theta q u f z D.M = f D.M
fine_piece set b D.Theta q u f z D.N = f D.N
fine_piece set b D.Theta q u f z D.Theta = piece_fine set D.Theta q u z
fine_piece set b D.Theta q u f z D.T = f D.T
fine_piece set b D.T q u f z D.XY = f D.XY
fine_piece set b D.T q u f z D.M = f D.M
fine_piece set b D.T q u f z D.N = f D.N
fine_piece set b D.T q u f z D.Theta = f D.Theta
fine_piece set b D.T q u f z D.T = piece_fine set D.T q u z

-- every piece of a later cut is legal, put and of f64s
cut_proper : (set : ℕ) (b : Block) (d : Direction) → in_use set d ≡ true → Fine set b → Every (Proper (is_integer d)) (later_cut (put_interval (parameter_of b d)) (is_integer d))
cut_proper set b d u f =
    let x = parameter_of b d in
    let z = (f d).proper u in
    later_proper (put_interval x) (is_integer d) (put_format x z.format) (put_legal x (is_integer d) ∙ z.legal)

module _ (p : Chosen) (b : Block) (ok : sound p b ≡ true) (f : Fine p.set b) where
  xy_fine : Every (Fine p.set) (children_xy p b)
  unfolding children_xy quarters_of
  xy_fine =
      let m : (x y : Coordinate) → Fine p.set (moved_to b x y) = (λ x y. fine_moved p.set b x y f) in
      let q : Every (Fine p.set) (quarters_of b) =
      (m (low_half b.x) (low_half b.y), (m (high_half b.x) (low_half b.y), (m (low_half b.x) (high_half b.y), (m (high_half b.x) (high_half b.y), tt)))) in
      by_test (Every (Fine p.set)) (ltb 48 b.x.rank) (kept_inside p (quarters_of b)) (quarters_of b)
      (λ e. each_kept p (Fine p.set) (quarters_of b) (every_also (Fine p.set) (λ c. begins_inside p c ≡ true → Fine p.set c) (λ c g t. g) (quarters_of b) q))
      (λ e. q)

  cut_fine : (d : Direction) → direction_of p b ≡ Some d → Every (Fine p.set) (children_cut b d)
  unfolding children_cut
  cut_fine d e =
      let u = direction_in_use p b d e in
      every_map (Proper (is_integer d)) (Fine p.set) (with_parameter b d) (λ q z. fine_piece p.set b d q u f z) (later_cut (put_interval (parameter_of b d)) (is_integer d)) (cut_proper p.set b d u f)

  along_fine : (a : Option Direction) → direction_of p b ≡ a → Every (Fine p.set) (children_along p b a)
  along_fine (Some D.XY) e = xy_fine
  along_fine (Some D.M) e = cut_fine D.M e
  along_fine (Some D.N) e = cut_fine D.N e
  along_fine (Some D.Theta) e = cut_fine D.Theta e
  along_fine (Some D.T) e = cut_fine D.T e
  along_fine None e = (f, tt)

  pub children_fine : Every (Fine p.set) (children_of p b)
  unfolding children_of
  children_fine = rw ok (along_fine (direction_of p b) refl)

-- a child can be queued as it is
pub child_can_queue : (p : Chosen) (b c : Block) → ChildPlace p b c → Fine p.set c → CanQueue p.set c
child_can_queue p b c h f = record { x = ranged ordinary_floor c.x.rank c.x.index h.x.in_ranges; y = ranged ordinary_floor c.y.rank c.y.index h.y.in_ranges; fine = f }

pub children_can_queue : (p : Chosen) (b : Block) → sound p b ≡ true → CanQueue p.set b → Every (CanQueue p.set) (children_of p b)
children_can_queue p b ok q =
    every_both (ChildPlace p b) (Fine p.set) (CanQueue p.set) (child_can_queue p b) (children_of p b) (children_placed p b ok) (children_fine p b ok q.fine)

-- an index stays under 2^47
pub children_bounded : (p : Chosen) (b : Block) → sound p b ≡ true → Every (λ c. (c.x.index < 2 ^ 47) × (c.y.index < 2 ^ 47)) (children_of p b)
children_bounded p b ok =
    every_also (ChildPlace p b) (λ c. (c.x.index < 2 ^ 47) × (c.y.index < 2 ^ 47))
    (λ c h. ((ranged ordinary_floor c.x.rank c.x.index h.x.in_ranges).bound, (ranged ordinary_floor c.y.rank c.y.index h.y.in_ranges).bound))
    (children_of p b) (children_placed p b ok)
