-- What holds of each first block: where it stands, that it can be queued and comes out as it went in, that it is not damaged, and that it covers every pixel.
-- Assumes nothing.
use mathlib.Core.Path.{◌≡◌, refl, sym, ap, ◌∙◌, subst}
use mathlib.Core.Bool.{Bool, true, false, not, ◌&&◌, ◌||◌, true≢false, false≢true}
use mathlib.Core.List.{List, [], ◌∷◌}
use Prim.Native.Nat.{ℕ, ◌+◌, ◌*◌, ◌^◌, ◌≤◌, ◌<◌}
use native.Mathlib.Omega.{arith}
use native.Mathlib.Nat.{mul-pos}
use lib.Dec.{lit<, leb, ltb}
use lib.ListN.{length}
use borrow.Author.Tests.{lt-ltb, le-leb}
use Rattle.base.proofs.Test.{and_both, cases}
use Rattle.base.specs.Lists.{Every}
use Rattle.coordinate.specs.declared.Coordinate.{Coordinate}
use Rattle.coordinate.specs.Axis.{ordinary_floor, in_range, inside}
use Rattle.coordinate.proofs.Covering.{covers1}
use Rattle.coordinate.specs.Lone.{legal}
use Rattle.coordinate.proofs.PixelLaws.{Ranged, places_one}
use Rattle.coordinate.proofs.CoverLaws.{root_covers}
use Rattle.interval.specs.declared.Interval.{Interval}
use Rattle.interval.specs.Bounds.{InFormat, legal_interval, put_interval}
use Rattle.interval.specs.Answers.{pieces_of}
use Rattle.interval.proofs.Legality.{put_legal, put_again}
use Rattle.interval.proofs.ProperPieces.{Proper, few_count, put_format}
use Rattle.interval.proofs.CutAnswers.{Pieced, first_good}
use Rattle.queue.specs.declared.Block.{Block}
use Rattle.queue.specs.declared.directions.Direction.{Direction}
use Rattle.queue.specs.declared.directions.Direction.TheVariants as D
use Rattle.queue.specs.Directions.{in_use, directions, direction_at}
use Rattle.queue.specs.Block.{whole_line, is_integer, parameter_of, as_queued_at}
use Rattle.queue.specs.Code.{legal_if_used}
use Rattle.queue.proofs.RoundTrip.{ParameterFine, CanQueue}
use Rattle.queue.proofs.KeptLaws.{line_fine, fine_legal}
use Rattle.decide.specs.declared.Chosen.{Chosen}
use Rattle.decide.specs.Damage.{undamaged, direction_right, direction_of, cuttable}
use Rattle.decide.proofs.DamageLaws.{undamaged_is}
use Rattle.implicit.specs.declared.state.Ranges.{Ranges}
use Rattle.implicit.specs.Setup.{start_level, root_block, first_blocks, ranges_legal}
use Rattle.implicit.specs.SetupComputed.{pieces_kept, product_of, piece_count, product_count}
use Rattle.implicit.proofs.SetupLawsLevel.{level_most, level_width, level_height}
use Rattle.implicit.proofs.SetupLawsProduct.{nine, more, most}
use Rattle.implicit.proofs.SetupLawsFirst.{every_each, legal_ranges, kept_used, kept_unused, cut_m, cut_n, cut_theta, product_list, first_is, count_is}

-- the ranges are of f64s, as all are that code holds
abbrev pub RangesHeld : Ranges → Type 0
RangesHeld r = InFormat r.m × InFormat r.n × InFormat r.theta × InFormat r.t

-- where the first blocks stand
abbrev pub start_coordinate : Chosen → Coordinate
start_coordinate p = record { index = 0; rank = 48 + start_level p }

-- a first block: at (0,0) on the start level, direction 0, each used parameter legal, put and of f64s, each other one the whole line
pub record FirstBlock (p : Chosen) (b : Block) : Type 0 where
  pub x : b.x ≡ start_coordinate p
  pub y : b.y ≡ start_coordinate p
  pub dir : b.dir ≡ 0
  pub m : ParameterFine (in_use p.set D.M) true b.m
  pub n : ParameterFine (in_use p.set D.N) true b.n
  pub theta : ParameterFine (in_use p.set D.Theta) true b.theta
  pub t : ParameterFine (in_use p.set D.T) false b.t

-- THE PIECES

fine_root : (used integer : Bool) (x : Interval) → InFormat x → not used || legal_interval x integer ≡ true → ParameterFine used integer (as_queued_at used x)
fine_root true integer x f e =
    record { proper = λ q. record { legal = put_legal x integer ∙ e; put = put_again x; format = put_format x f }; line = λ q. absurd (true≢false q) }
fine_root false integer x f e = record { proper = λ q. absurd (false≢true q); line = λ q. refl }

each_fine : (used integer : Bool) (ps : List Interval) → used ≡ true → Every (Proper integer) ps → Every (ParameterFine used integer) ps
each_fine used integer [] u h = tt
each_fine used integer (p ∷ ps) u h = (record { proper = λ q. h.0; line = λ q. absurd (true≢false (sym u ∙ q)) }, each_fine used integer ps u h.1)

module _ (set : ℕ) (d : Direction) (x : Interval) (f : InFormat x) (h : legal_if_used set d x ≡ true) where
  first_kept : (u : in_use set d ≡ true) → Pieced (is_integer d) (pieces_of (pieces_kept set d x))
  first_kept u =
      let e : legal_interval x (is_integer d) ≡ true = rw u at h in
      subst (Pieced (is_integer d)) (sym (kept_used set d x u h)) (first_good (put_interval x) (is_integer d) (put_format x f) (put_legal x (is_integer d) ∙ e))

  kept_fine : Every (ParameterFine (in_use set d) (is_integer d)) (pieces_of (pieces_kept set d x))
  kept_fine =
      cases (in_use set d) (λ u. each_fine (in_use set d) (is_integer d) (pieces_of (pieces_kept set d x)) u (first_kept u).proper)
      (λ u. subst (Every (ParameterFine (in_use set d) (is_integer d))) (sym (kept_unused set d x u)) (unused u, tt))
    where
      unused : in_use set d ≡ false → ParameterFine (in_use set d) (is_integer d) whole_line
      unused u = record { proper = λ q. absurd (false≢true (sym u ∙ q)); line = λ q. refl }

  kept_count : (0 < piece_count (pieces_kept set d x)) × (piece_count (pieces_kept set d x) ≤ 3)
  kept_count =
      cases (in_use set d) (λ u. few_count (pieces_of (pieces_kept set d x)) (first_kept u).few)
      (λ u. subst (λ (l : List Interval). (0 < length l) × (length l ≤ 3)) (sym (kept_unused set d x u)) (omega arith, omega arith))

-- THE BLOCKS

module _ (p : Chosen) (r : Ranges) (held : RangesHeld r) (ok : ranges_legal p.set r ≡ true) where
  root_first : FirstBlock p (root_block p r)
  unfolding root_block
  root_first =
      let g = legal_ranges p.set r ok in
      record {
        x = refl;
        y = refl;
        dir = refl;
        m = fine_root (in_use p.set D.M) true r.m held.0 g.m;
        n = fine_root (in_use p.set D.N) true r.n held.1 g.n;
        theta = fine_root (in_use p.set D.Theta) true r.theta held.2 g.theta;
        t = fine_root (in_use p.set D.T) false r.t held.3 g.t;
      }

  pub product_first : Every (FirstBlock p) (product_list (product_of p r))
  unfolding product_of
  product_first =
      let g = legal_ranges p.set r ok in
      let f = product_of p r in
      let a₁ = every_each (FirstBlock p) (FirstBlock p) (ParameterFine (in_use p.set D.M) true) D.M (pieces_of f.m) (f.root ∷ [])
      (λ b q u s. record { x = u.x; y = u.y; dir = u.dir; m = s; n = u.n; theta = u.theta; t = u.t })
      (kept_fine p.set D.M r.m held.0 g.m) (root_first, tt) in
      let a₂ = every_each (FirstBlock p) (FirstBlock p) (ParameterFine (in_use p.set D.N) true) D.N (pieces_of f.n) (cut_m f)
      (λ b q u s. record { x = u.x; y = u.y; dir = u.dir; m = u.m; n = s; theta = u.theta; t = u.t })
      (kept_fine p.set D.N r.n held.1 g.n) a₁ in
      let a₃ = every_each (FirstBlock p) (FirstBlock p) (ParameterFine (in_use p.set D.Theta) true) D.Theta (pieces_of f.theta) (cut_n f)
      (λ b q u s. record { x = u.x; y = u.y; dir = u.dir; m = u.m; n = u.n; theta = s; t = u.t })
      (kept_fine p.set D.Theta r.theta held.2 g.theta) a₂ in
      every_each (FirstBlock p) (FirstBlock p) (ParameterFine (in_use p.set D.T) false) D.T (pieces_of f.t) (cut_theta f)
      (λ b q u s. record { x = u.x; y = u.y; dir = u.dir; m = u.m; n = u.n; theta = u.theta; t = s }) (kept_fine p.set D.T r.t held.3 g.t) a₃

  -- EACH FIRST BLOCK IS ONE
  pub first_blocks_lem : Every (FirstBlock p) (first_blocks p r)
  first_blocks_lem = subst (Every (FirstBlock p)) (sym (first_is p r ok)) product_first

  -- THERE ARE ONE TO 81
  pub first_count : (1 ≤ length (first_blocks p r)) × (length (first_blocks p r) ≤ 81)
  unfolding product_of product_count
  first_count =
      let g = legal_ranges p.set r ok in
      let f = product_of p r in
      let a = kept_count p.set D.M r.m held.0 g.m in
      let b = kept_count p.set D.N r.n held.1 g.n in
      let c = kept_count p.set D.Theta r.theta held.2 g.theta in
      let d = kept_count p.set D.T r.t held.3 g.t in
      let ab = piece_count f.m * piece_count f.n in
      rw (first_is p r ok, count_is f)
      let nines = nine (piece_count f.m) (piece_count f.n) a.1 b.1 in (
        mul-pos (mul-pos (mul-pos a.0 b.0) c.0) d.0,
        most (ab * piece_count f.theta) (piece_count f.t) (more ab (piece_count f.theta) nines c.1) d.1,
      )

-- ONE OF THEM

start_ranged : (p : Chosen) → Ranged 16 (48 + start_level p) 0
start_ranged p = record { low = omega (arith, level_most p); high = omega (arith, level_most p); bound = lit< tt }

-- it comes out of the queue as it went in
pub first_can : (p : Chosen) (b : Block) → FirstBlock p b → CanQueue p.set b
first_can p b f = record { x = rw f.x (start_ranged p); y = rw f.y (start_ranged p); fine = fine }
  where
    fine : (d : Direction) → ParameterFine (in_use p.set d) (is_integer d) (parameter_of b d)
    fine D.XY = line_fine (in_use p.set D.XY)
    fine D.M = f.m
    fine D.N = f.n
    fine D.Theta = f.theta
    fine D.T = f.t

start_legal : (p : Chosen) → legal ordinary_floor (start_coordinate p) ≡ true
unfolding in_range
start_legal p =
    let l = level_most p in
    and_both (leb 16 (48 + start_level p) && ltb (48 + start_level p) 64) (ltb 0 (2 ^ 47))
    (and_both (leb 16 (48 + start_level p)) (ltb (48 + start_level p) 64) (le-leb 16 (48 + start_level p) (omega arith))
    (lt-ltb (48 + start_level p) 64 (omega arith)))
    refl

start_inside : (p : Chosen) (side : ℕ) → 1 ≤ side → side ≤ 2 ^ start_level p → inside side (48 + start_level p) 0 ≡ true
unfolding inside
start_inside p side h k = rw (places_one side (start_level p) h k)

-- direction 0 is the first in use, or right because there is none
start_directed : (p : Chosen) (b : Block) → b.dir ≡ 0 → 16 < b.x.rank → direction_right p b (direction_of p b) ≡ true
start_directed p b e h = ap (λ (n : ℕ). direction_right p b (direction_at (directions p.set) n)) e ∙ go (directions p.set) refl
  where
    along : (d : Direction) → cuttable b d ≡ true
    along D.XY = lt-ltb 16 b.x.rank h
    along D.M = refl
    along D.N = refl
    along D.Theta = refl
    along D.T = refl

    go : (ds : List Direction) → directions p.set ≡ ds → direction_right p b (direction_at (directions p.set) 0) ≡ true
    go [] f = unfold direction_at in rw (f, f, e)
    go (d ∷ ds) f = unfold direction_at in rw f (along d)

-- it is not damaged
pub first_undamaged : (p : Chosen) (b : Block) → FirstBlock p b → 1 ≤ p.width → p.width ≤ 32768 → 1 ≤ p.height → p.height ≤ 32768 → undamaged p b ≡ true
first_undamaged p b f w w' h h' =
    let l = level_most p in
    undamaged_is p b record {
      ranks = rw (f.x, f.y);
      x = rw f.x (record { in_ranges = start_legal p; inside_side = start_inside p p.width w (level_width p w' h') });
      y = rw f.y (record { in_ranges = start_legal p; inside_side = start_inside p p.height h (level_height p w' h') });
      directed = start_directed p b f.dir (rw f.x (omega arith));
      parameters = record {
        m = fine_legal (in_use p.set D.M) true b.m f.m;
        n = fine_legal (in_use p.set D.N) true b.n f.n;
        theta = fine_legal (in_use p.set D.Theta) true b.theta f.theta;
        t = fine_legal (in_use p.set D.T) false b.t f.t;
      };
    }

-- IT COVERS EVERY PIXEL
pub first_covers : (p : Chosen) (b : Block) → FirstBlock p b → p.width ≤ 32768 → p.height ≤ 32768 → (x y : ℕ) → x < p.width → y < p.height
    → (covers1 b.x.rank b.x.index x ≡ true) × (covers1 b.y.rank b.y.index y ≡ true)
first_covers p b f w h x y i j =
    (rw f.x (root_covers p.width (start_level p) x (level_width p w h) i), rw f.y (root_covers p.height (start_level p) y (level_height p w h) j))
