-- Where the children of a block lie: in its place, or in the quarters of it; which pixels they cover, and which two of them cover together.
-- Assumes nothing.
use Rattle.std.specs.Prelude.{Option, Some, None}
use mathlib.Core.Path.{◌≡◌, refl, sym, ap₂, ◌∙◌}
use mathlib.Core.Bool.{Bool, true, false, ◌&&◌}
use mathlib.Core.List.{List, [], ◌∷◌}
use Prim.Native.Nat.{ℕ, suc, ◌+◌, ◌-◌, ◌*◌, ◌/◌, ◌≤◌, ◌<◌}
use native.Mathlib.Omega.{arith}
use lib.Dec.{leb, ltb}
use borrow.Author.Tests.{ltb-true, ltb-false, le-leb, lt-leb}
use Rattle.base.proofs.Test.{cases, by_test, and_left, and_right, and_both}
use Rattle.base.specs.Lists.{Every}
use Rattle.base.proofs.ListLaws.{every_all, every_also, every_map, Pairs, every_pairs}
use Rattle.coordinate.specs.declared.Coordinate.{Coordinate}
use Rattle.coordinate.specs.Axis.{ordinary_floor, above_floor}
use Rattle.coordinate.proofs.Covering.{covers1}
use Rattle.coordinate.specs.Lone.{low_half, high_half}
use Rattle.coordinate.proofs.CoverLaws.{half_same, half_covers, apart}
use Rattle.interval.specs.declared.Interval.{Interval}
use Rattle.interval.specs.Bounds.{put_interval}
use Rattle.interval.specs.Cuts.{later_cut}
use Rattle.queue.specs.declared.Block.{Block}
use Rattle.queue.specs.declared.directions.Direction.{Direction}
use Rattle.queue.specs.declared.directions.Direction.TheVariants as D
use Rattle.queue.specs.Block.{is_integer, parameter_of, with_parameter}
use Rattle.decide.specs.declared.Chosen.{Chosen}
use Rattle.decide.specs.Damage.{sound, direction_of}
use Rattle.decide.specs.Children.{moved_to, quarters_of, begins_inside, kept_inside, children_xy, children_cut, children_along, children_of}
use Rattle.plan.specs.AtOnce.{alike_along, alike}
use Rattle.decide.proofs.DamageLaws.{is_sound}
use Rattle.decide.proofs.ListingLaws.{cut_along}
use Rattle.plan.proofs.CoverLaws.{covers, Narrower, Apart}

-- c lies where b lies
pub record InPlace (b c : Block) : Type 0 where
  pub x : c.x ≡ b.x
  pub y : c.y ≡ b.y
  pub dir : c.dir ≡ b.dir

-- c is a quarter of b: halves of both coordinates, one rank lower
pub record QuarterOf (b c : Block) : Type 0 where
  pub x_rank : suc c.x.rank ≡ b.x.rank
  pub y_rank : suc c.y.rank ≡ b.y.rank
  pub x_index : c.x.index / 2 ≡ b.x.index
  pub y_index : c.y.index / 2 ≡ b.y.index
  pub dir : c.dir ≡ b.dir

-- where a child lies
pub data Lies (b c : Block) : Type 0 where
  stays : InPlace b c → Lies b c
  quarters : QuarterOf b c → Lies b c

-- WHAT THEY COVER

pub covers_in_place : (b c : Block) → InPlace b c → (px py : ℕ) → covers c px py ≡ covers b px py
covers_in_place b c i px py = rw (i.x, i.y)

-- a quarter covers only what its parent covers
pub quarter_narrower : (b c : Block) → QuarterOf b c → Narrower b c
quarter_narrower b c q px py e =
    let x = half_covers c.x.rank c.x.index px (and_left (covers1 c.x.rank c.x.index px) (covers1 c.y.rank c.y.index py) e) in
    let y = half_covers c.y.rank c.y.index py (and_right (covers1 c.x.rank c.x.index px) (covers1 c.y.rank c.y.index py) e) in
    and_both (covers1 b.x.rank b.x.index px) (covers1 b.y.rank b.y.index py) (rw (q.x_rank, q.x_index) at x) (rw (q.y_rank, q.y_index) at y)

pub lies_narrower : (b c : Block) → Lies b c → Narrower b c
lies_narrower b c (stays i) px py e = sym (covers_in_place b c i px py) ∙ e
lies_narrower b c (quarters q) px py e = quarter_narrower b c q px py e

-- from level 0 down it covers the same pixel
pub quarter_same : (b c : Block) → QuarterOf b c → c.x.rank < 48 → c.y.rank < 48 → (px py : ℕ) → covers c px py ≡ covers b px py
quarter_same b c q h k px py =
    let x = half_same c.x.rank c.x.index px h in
    let y = half_same c.y.rank c.y.index py k in
    ap₂ ◌&&◌ (rw (q.x_rank, q.x_index) at x) (rw (q.y_rank, q.y_index) at y)

-- and above, two quarters with different indices cover no pixel together
pub apart_x : (c d : Block) → 48 ≤ c.x.rank → c.x.rank ≡ d.x.rank → (c.x.index ≡ d.x.index → ⊥) → Apart c d
apart_x c d h r n px py e =
    cases (covers c px py)
    (λ t. (let x = and_left (covers1 c.x.rank c.x.index px) (covers1 c.y.rank c.y.index py) t in
    let z = and_left (covers1 d.x.rank d.x.index px) (covers1 d.y.rank d.y.index py) e in
    absurd (n (apart c.x.rank c.x.index d.x.index px h x (rw (← r) at z)))))
    (λ t. t)

pub apart_y : (c d : Block) → 48 ≤ c.y.rank → c.y.rank ≡ d.y.rank → (c.y.index ≡ d.y.index → ⊥) → Apart c d
apart_y c d h r n px py e =
    cases (covers c px py)
    (λ t. (let y = and_right (covers1 c.x.rank c.x.index px) (covers1 c.y.rank c.y.index py) t in
    let z = and_right (covers1 d.x.rank d.x.index px) (covers1 d.y.rank d.y.index py) e in
    absurd (n (apart c.y.rank c.y.index d.y.index py h y (rw (← r) at z)))))
    (λ t. t)

-- THE LISTS

pub each_kept : (p : Chosen) (P : Block → Type 0) (l : List Block) → Every (λ c. begins_inside p c ≡ true → P c) l → Every P (kept_inside p l)
unfolding kept_inside
each_kept p P [] h = tt
each_kept p P (c ∷ l) h =
    by_test (Every P) (begins_inside p c) (c ∷ kept_inside p l) (kept_inside p l) (λ e. (h.0 e, each_kept p P l h.1)) (λ e. each_kept p P l h.1)

pairs_kept : (p : Chosen) (R : Block → Block → Type 0) (l : List Block) → Pairs R l → Pairs R (kept_inside p l)
unfolding kept_inside
pairs_kept p R [] h = tt
pairs_kept p R (c ∷ l) h =
    by_test (Pairs R) (begins_inside p c) (c ∷ kept_inside p l) (kept_inside p l)
    (λ e. (each_kept p (R c) l (every_also (R c) (λ d. begins_inside p d ≡ true → R c d) (λ d r f. r) l h.0), pairs_kept p R l h.1))
    (λ e. pairs_kept p R l h.1)

module _ (b : Block) (up : 0 < b.x.rank) (same : b.x.rank ≡ b.y.rank) where
  quarter : (x y : Coordinate) → x.rank ≡ b.x.rank - 1 → y.rank ≡ b.y.rank - 1 → x.index / 2 ≡ b.x.index → y.index / 2 ≡ b.y.index → QuarterOf b (moved_to b x y)
  quarter x y e f g h = record { x_rank = omega arith; y_rank = omega arith; x_index = g; y_index = h; dir = refl }

  pub quarters_are : Every (QuarterOf b) (quarters_of b)
  unfolding quarters_of
  quarters_are =
      let l : 2 * b.x.index / 2 ≡ b.x.index = omega arith in
      let h : (2 * b.x.index + 1) / 2 ≡ b.x.index = omega arith in
      let m : 2 * b.y.index / 2 ≡ b.y.index = omega arith in
      let k : (2 * b.y.index + 1) / 2 ≡ b.y.index = omega arith in (
        quarter (low_half b.x) (low_half b.y) refl refl l m,
        (
          quarter (high_half b.x) (low_half b.y) refl refl h m,
          (
            quarter (low_half b.x) (high_half b.y) refl refl l k,
            (quarter (high_half b.x) (high_half b.y) refl refl h k, tt),
          ),
        ),
      )

  -- above level 0 no two of them cover a pixel together
  quarters_apart : 48 < b.x.rank → Pairs Apart (quarters_of b)
  unfolding quarters_of
  quarters_apart h =
      let x = low_half b.x in
      let x' = high_half b.x in
      let y = low_half b.y in
      let y' = high_half b.y in
      let r : 48 ≤ x.rank = omega arith in
      let s : 48 ≤ y.rank = omega arith in (
        (
          apart_x (moved_to b x y) (moved_to b x' y) r refl (λ e. omega arith),
          (
            apart_y (moved_to b x y) (moved_to b x y') s refl (λ e. omega arith),
            (apart_x (moved_to b x y) (moved_to b x' y') r refl (λ e. omega arith), tt),
          ),
        ),
        (
          (
            apart_x (moved_to b x' y) (moved_to b x y') r refl (λ e. omega arith),
            (apart_y (moved_to b x' y) (moved_to b x' y') s refl (λ e. omega arith), tt),
          ),
          ((apart_x (moved_to b x y') (moved_to b x' y') r refl (λ e. omega arith), tt), (tt, tt)),
        ),
      )

-- THE CHILDREN

in_place_cut : (b : Block) (d : Direction) (q : Interval) → InPlace b (with_parameter b d q)
in_place_cut b D.XY q = record { x = refl; y = refl; dir = refl }
in_place_cut b D.M q = record { x = refl; y = refl; dir = refl }
in_place_cut b D.N q = record { x = refl; y = refl; dir = refl }
in_place_cut b D.Theta q = record { x = refl; y = refl; dir = refl }
in_place_cut b D.T q = record { x = refl; y = refl; dir = refl }

pub cut_in_place : (b : Block) (d : Direction) → Every (InPlace b) (children_cut b d)
unfolding children_cut
cut_in_place b d =
    let l = later_cut (put_interval (parameter_of b d)) (is_integer d) in
    every_map (λ (q : Interval). Unit {0}) (InPlace b) (with_parameter b d) (λ q u. in_place_cut b d q) l (every_all (λ (q : Interval). Unit {0}) (λ q. tt) l)

-- children in their parent's place, and its quarters from level 0 down, cover what it covers
abbrev pub CoversAs : Block → Block → Type 0
CoversAs b c = (px py : ℕ) → covers c px py ≡ covers b px py

as_pairs : (b : Block) (l : List Block) → Every (CoversAs b) l → Pairs Narrower l
as_pairs b l h = every_pairs (CoversAs b) Narrower (λ c d s t px py e. s px py ∙ sym (t px py) ∙ e) l h

-- two children, the earlier first: the later covers only what the earlier covers, or nothing of it
abbrev pub Beside : Bool → Block → Block → Type 0
Beside true c d = Narrower c d
Beside false c d = Apart c d

module _ (p : Chosen) (b : Block) (ok : sound p b ≡ true) where
  xy_lies : above_floor ordinary_floor b.x.rank ≡ true → Every (Lies b) (children_xy p b)
  unfolding children_xy
  xy_lies up =
      let h = ltb-true ordinary_floor b.x.rank up in
      let q = every_also (QuarterOf b) (Lies b) (λ c. quarters) (quarters_of b) (quarters_are b (omega arith) (is_sound p b ok).block.ranks) in
      by_test (Every (Lies b)) (ltb 48 b.x.rank) (kept_inside p (quarters_of b)) (quarters_of b)
      (λ e. each_kept p (Lies b) (quarters_of b) (every_also (Lies b) (λ c. begins_inside p c ≡ true → Lies b c) (λ c l f. l) (quarters_of b) q))
      (λ e. q)

  cut_lies : (d : Direction) → Every (Lies b) (children_cut b d)
  cut_lies d = every_also (InPlace b) (Lies b) (λ c. stays) (children_cut b d) (cut_in_place b d)

  along_lies : (a : Option Direction) → direction_of p b ≡ a → Every (Lies b) (children_along p b a)
  along_lies (Some D.XY) e = xy_lies (cut_along p b D.XY ok e refl)
  along_lies (Some D.M) e = cut_lies D.M
  along_lies (Some D.N) e = cut_lies D.N
  along_lies (Some D.Theta) e = cut_lies D.Theta
  along_lies (Some D.T) e = cut_lies D.T
  along_lies None e = (stays record { x = refl; y = refl; dir = refl }, tt)

  -- each child has its parent's place, or is a quarter of it
  pub children_lie : Every (Lies b) (children_of p b)
  unfolding children_of
  children_lie = rw ok (along_lies (direction_of p b) refl)

  xy_beside : above_floor ordinary_floor b.x.rank ≡ true → Pairs (Beside (leb b.x.rank 48)) (children_xy p b)
  unfolding children_xy
  xy_beside up =
      let h = ltb-true ordinary_floor b.x.rank up in
      let r = (is_sound p b ok).block.ranks in
      cases (ltb 48 b.x.rank)
      (λ e. (let k = ltb-true 48 b.x.rank e in rw (e, lt-leb b.x.rank 48 k) (pairs_kept p Apart (quarters_of b) (quarters_apart b (omega arith) r k))))
      (λ e. (let k = ltb-false 48 b.x.rank e in
      rw (e, le-leb b.x.rank 48 k)
      (as_pairs b (quarters_of b)
      (every_also (QuarterOf b) (CoversAs b) (λ c q. quarter_same b c q (omega (arith, q.x_rank)) (omega (arith, q.y_rank))) (quarters_of b) (quarters_are b (omega arith) r)))))

  cut_beside : (d : Direction) → Pairs Narrower (children_cut b d)
  cut_beside d = as_pairs b (children_cut b d) (every_also (InPlace b) (CoversAs b) (covers_in_place b) (children_cut b d) (cut_in_place b d))

  along_beside : (a : Option Direction) → direction_of p b ≡ a → Pairs (Beside (alike_along b.x.rank a)) (children_along p b a)
  along_beside (Some D.XY) e = xy_beside (cut_along p b D.XY ok e refl)
  along_beside (Some D.M) e = cut_beside D.M
  along_beside (Some D.N) e = cut_beside D.N
  along_beside (Some D.Theta) e = cut_beside D.Theta
  along_beside (Some D.T) e = cut_beside D.T
  along_beside None e = (tt, tt)

  -- the children cover all the same pixels, or no two of them cover a pixel together
  pub children_beside : Pairs (Beside (alike p b)) (children_of p b)
  unfolding children_of
  children_beside = rw ok (along_beside (direction_of p b) refl)
