-- A child that finds a direction differs from itself in the direction byte alone and is undamaged; one that finds none lies where its parent lies,
-- for all cells. Assumes nothing.
use Rattle.std.specs.Prelude.{Option, Some, None}
use mathlib.Core.Path.{◌≡◌, refl, sym, ap, ◌∙◌}
use mathlib.Core.Bool.{Bool, true, false, cond, false≢true}
use mathlib.Core.List.{List, ◌∷◌}
use Prim.Native.Nat.{ℕ, zero, suc, ◌+◌, ◌-◌, ◌*◌, ◌/◌, ◌%◌, ◌≤◌, ◌<◌}
use native.Mathlib.Omega.{arith}
use native.Mathlib.Decide.{dec_le}
use native.Mathlib.Nat.{mod-lt, mod-eq_of_lt, add-mul-mod_self_right, div-add-mod'}
use lib.Dec.{ltb}
use lib.ListN.{length}
use borrow.Author.Tests.{ltb-true, ltb-false}
use Rattle.base.proofs.Test.{by_test}
use Rattle.base.specs.Lists.{Every}
use Rattle.base.proofs.ListLaws.{every_also}
use Rattle.coordinate.specs.Axis.{ordinary_floor, pixel}
use Rattle.coordinate.proofs.CoverLaws.{half_pixel}
use Rattle.image.specs.Range.{rectangle_of}
use Rattle.queue.specs.declared.Block.{Block}
use Rattle.queue.specs.declared.directions.Direction.{Direction}
use Rattle.queue.specs.declared.directions.Direction.TheVariants as D
use Rattle.queue.specs.Directions.{in_use, used_of, directions, parameters, direction_at}
use Rattle.queue.specs.DirectionsComputed.{ones}
use Rattle.queue.proofs.DirectionLaws.{used_length, at_first}
use Rattle.queue.proofs.RoundTrip.{CanQueue}
use Rattle.decide.specs.declared.Chosen.{Chosen}
use Rattle.decide.specs.Turn as T
use Rattle.decide.specs.Damage.{undamaged, sound, direction_of, direction_right}
use Rattle.decide.specs.Children.{quarters_of, begins_inside, kept_inside, children_xy, children_cut, children_along, children_of}
use Rattle.decide.specs.Turn.{start_of, subdivisible_along, searched_from, searched, turned_to, turned_by, turned}
use Rattle.decide.proofs.DamageLaws.{LegalParameters, undamaged_is, is_sound, sound_from}
use Rattle.decide.proofs.ListingLaws.{cut_along}
use Rattle.plan.proofs.PlaceLaws.{InPlace, QuarterOf, each_kept, quarters_are, cut_in_place}
use Rattle.plan.proofs.ChildLaws.{ChildPlace, Fine, fine_parameters, direction_in_use}

-- FOUND

-- what a search finds can be cut along
search_splits : (ds : List Direction) (c : Block) (n at k : ℕ) → searched_from ds c n at ≡ Some k → subdivisible_along c (direction_at ds k) ≡ true
unfolding searched_from
search_splits ds c zero at k e = let z : ◌≡◌ {A = ℕ} 0 1 = cc in absurd (omega arith)
search_splits ds c (suc n) at k e = go (subdivisible_along c (direction_at ds (at % length ds))) refl (search_splits ds c n (at + 1) k) e
  where
    go : (t : Bool) → subdivisible_along c (direction_at ds (at % length ds)) ≡ t → (searched_from ds c n (at + 1) ≡ Some k → subdivisible_along c (direction_at ds k) ≡ true)
        → cond t (Some (at % length ds)) (searched_from ds c n (at + 1)) ≡ Some k → subdivisible_along c (direction_at ds k) ≡ true
    go true f ih g = let h : at % length ds ≡ k = cc in rw (← h) f
    go false f ih g = ih g

-- c is queued as d: the same but for the direction byte, which names a direction in use that it can be cut along
pub record TurnsTo (p : Chosen) (c d : Block) : Type 0 where
  pub same : d ≡ turned_to c d.dir
  pub splits : subdivisible_along c (direction_of p d) ≡ true

pub turns : (p : Chosen) (b : Block) (n : ℕ) (c d : Block) → turned p b n c ≡ T.To d → TurnsTo p c d
unfolding turned
turns p b n c d e = go (searched p c (start_of p b n)) refl e
  where
    go : (f : Option ℕ) → searched p c (start_of p b n) ≡ f → turned_by c f ≡ T.To d → TurnsTo p c d
    go (Some k) g h =
        let s : turned_to c k ≡ d = cc in
        let t = search_splits (directions p.set) c (length (directions p.set)) (start_of p b n) k g in
        record { same = rw (← s); splits = rw (← s) t }
    go None g h = let z : ◌≡◌ {A = ℕ} 0 1 = cc in absurd (omega arith)

-- so its direction is right
way_right : (p : Chosen) (c d : Block) (a : Option Direction) → d.x ≡ c.x → subdivisible_along c a ≡ true → direction_right p d a ≡ true
way_right p c d (Some D.XY) e s = rw e s
way_right p c d (Some D.M) e s = refl
way_right p c d (Some D.N) e s = refl
way_right p c d (Some D.Theta) e s = refl
way_right p c d (Some D.T) e s = refl
way_right p c d None e s = absurd (false≢true s)

-- and it is undamaged, in the same picture
pub turned_undamaged : (p : Chosen) (b c d : Block) → ChildPlace p b c → LegalParameters c → TurnsTo p c d → undamaged p d ≡ true
turned_undamaged p b c d h l t =
    let s = t.same in
    let x : d.x ≡ c.x = ap (λ (w : Block). w.x) s in
    let y : d.y ≡ c.y = ap (λ (w : Block). w.y) s in
    undamaged_is p d record {
      ranks = rw (x, y) h.ranks;
      x = rw x h.x;
      y = rw y h.y;
      directed = way_right p c d (direction_of p d) x t.splits;
      parameters = rw s record { m = l.m; n = l.n; theta = l.theta; t = l.t };
    }

pub turned_sound : (p : Chosen) (b c d : Block) → sound p b ≡ true → ChildPlace p b c → Fine p.set c → TurnsTo p c d → sound p d ≡ true
turned_sound p b c d ok h f t = sound_from p b d ok (turned_undamaged p b c d h (fine_parameters p.set c f) t)

-- it can be queued as the child could
pub turned_can_queue : (p : Chosen) (c d : Block) → CanQueue p.set c → TurnsTo p c d → CanQueue p.set d
turned_can_queue p c d q t = rw t.same record { x = q.x; y = q.y; fine = fine }
  where
    fine : Fine p.set (turned_to c d.dir)
    fine D.XY = q.fine D.XY
    fine D.M = q.fine D.M
    fine D.N = q.fine D.N
    fine D.Theta = q.fine D.Theta
    fine D.T = q.fine D.T

-- NOT FOUND

-- a search that finds nothing has tried each place on its way
search_tried : (ds : List Direction) (c : Block) (n at : ℕ) → searched_from ds c n at ≡ None → (j : ℕ) → j < n → subdivisible_along c (direction_at ds ((at + j) % length ds)) ≡ false
unfolding searched_from
search_tried ds c zero at e j h = absurd (omega arith)
search_tried ds c (suc n) at e j h = go (subdivisible_along c (direction_at ds (at % length ds))) refl e j h (search_tried ds c n (at + 1))
  where
    go : (t : Bool) → subdivisible_along c (direction_at ds (at % length ds)) ≡ t → cond t (Some (at % length ds)) (searched_from ds c n (at + 1)) ≡ None → (j : ℕ) → j < suc n
        → (searched_from ds c n (at + 1) ≡ None → (i : ℕ) → i < n → subdivisible_along c (direction_at ds ((at + 1 + i) % length ds)) ≡ false)
        → subdivisible_along c (direction_at ds ((at + j) % length ds)) ≡ false
    go true f g j h ih = let z : ◌≡◌ {A = ℕ} 0 1 = cc in absurd (omega arith)
    go false f g zero h ih = let e : at + 0 ≡ at = omega arith in rw e f
    go false f g (suc j) h ih = let e : at + suc j ≡ at + 1 + j = omega arith in rw e (ih g j (omega arith))

-- and on its way round the list lies every place
round : (at t n : ℕ) → t < n → (j : ℕ) × (j < n) × ((at + j) % n ≡ t)
round at t n h =
    let r : at % n < n = mod-lt at (omega arith) in
    let d = div-add-mod' at n in
    elim (dec_le (at % n) t) [
      | yes k ↦ (
        t - at % n,
        omega arith,
        (let e : at + (t - at % n) ≡ t + at / n * n = omega arith in rw e (add-mul-mod_self_right t (at / n) n ∙ mod-eq_of_lt h)),
      )
      | no k ↦ (
        t + n - at % n,
        omega arith,
        (let e : at + (t + n - at % n) ≡ t + suc (at / n) * n = omega arith in rw e (add-mul-mod_self_right t (suc (at / n)) n ∙ mod-eq_of_lt h)),
      )
    ]

-- a child that finds no direction can be cut along none of those in use
pub nowhere_none : (p : Chosen) (b : Block) (n : ℕ) (c : Block) → turned p b n c ≡ T.Nowhere
    → (t : ℕ) → t < length (directions p.set) → subdivisible_along c (direction_at (directions p.set) t) ≡ false
unfolding turned
nowhere_none p b n c e t h = go (searched p c (start_of p b n)) refl e
  where
    go : (f : Option ℕ) → searched p c (start_of p b n) ≡ f → turned_by c f ≡ T.Nowhere → subdivisible_along c (direction_at (directions p.set) t) ≡ false
    go (Some k) f g = let z : ◌≡◌ {A = ℕ} 0 1 = cc in absurd (omega arith)
    go None f g =
        let r = round (start_of p b n) t (length (directions p.set)) h in
        rw r.2 at (search_tried (directions p.set) c (length (directions p.set)) (start_of p b n) f r.0 r.1)

-- so where x or y is in use it is on the floor
pub nowhere_floor : (p : Chosen) (b : Block) (n : ℕ) (c : Block) → in_use p.set D.XY ≡ true → turned p b n c ≡ T.Nowhere → c.x.rank ≤ 16
unfolding directions
nowhere_floor p b n c u e =
    let o : 1 ≡ ones (in_use p.set D.XY) = rw u in
    let a : direction_at (used_of p.set (D.XY ∷ parameters)) 0 ≡ Some D.XY = at_first p.set D.XY parameters 0 1 o (omega arith) in
    let l : 0 < length (used_of p.set (D.XY ∷ parameters)) = omega (arith, used_length p.set D.XY parameters) in
    ltb-false 16 c.x.rank (sym (ap (subdivisible_along c) a) ∙ nowhere_none p b n c e 0 l)

-- it covers exactly what its parent covers: a quarter on the floor lies in its parent's one pixel
quarter_rectangle : (b c : Block) (width height : ℕ) → QuarterOf b c → c.x.rank < 48 → c.y.rank < 48 → rectangle_of c.x c.y width height ≡ rectangle_of b.x b.y width height
unfolding rectangle_of
quarter_rectangle b c width height q h k =
    let xr = q.x_rank in
    let yr = q.y_rank in
    let x : pixel c.x.rank c.x.index ≡ pixel b.x.rank b.x.index = rw (q.x_rank, q.x_index) at (half_pixel c.x.rank c.x.index h) in
    let y : pixel c.y.rank c.y.index ≡ pixel b.y.rank b.y.index = rw (q.y_rank, q.y_index) at (half_pixel c.y.rank c.y.index k) in
    let e : c.x.rank - 48 ≡ b.x.rank - 48 = omega arith in
    let f : c.y.rank - 48 ≡ b.y.rank - 48 = omega arith in
    rw (x, y, e, f)

module _ (p : Chosen) (b : Block) (n : ℕ) (ok : sound p b ≡ true) where
  -- a child without a direction has its parent's rectangle
  abbrev pub SameRectangle : Block → Type 0
  SameRectangle c = turned p b n c ≡ T.Nowhere → rectangle_of c.x c.y p.width p.height ≡ rectangle_of b.x b.y p.width p.height

  xy_nowhere : direction_of p b ≡ Some D.XY → Every SameRectangle (children_xy p b)
  unfolding children_xy
  xy_nowhere e =
      let u = direction_in_use p b D.XY e in
      let k = ltb-true ordinary_floor b.x.rank (cut_along p b D.XY ok e refl) in
      let r = (is_sound p b ok).block.ranks in
      let q = quarters_are b (omega arith) r in
      let each : (c : Block) → QuarterOf b c → SameRectangle c = (λ c z t.
      let l = nowhere_floor p b n c u t in
      let xr = z.x_rank in
      let yr = z.y_rank in
      quarter_rectangle b c p.width p.height z (omega arith) (omega arith)) in
      by_test (Every SameRectangle) (ltb 48 b.x.rank) (kept_inside p (quarters_of b)) (quarters_of b)
      (λ i. each_kept p SameRectangle (quarters_of b) (every_also (QuarterOf b) (λ c. begins_inside p c ≡ true → SameRectangle c) (λ c z j. each c z) (quarters_of b) q))
      (λ i. every_also (QuarterOf b) SameRectangle each (quarters_of b) q)

  cut_nowhere : (d : Direction) → Every SameRectangle (children_cut b d)
  cut_nowhere d = every_also (InPlace b) SameRectangle (λ c i t. rw (i.x, i.y)) (children_cut b d) (cut_in_place b d)

  along_nowhere : (a : Option Direction) → direction_of p b ≡ a → Every SameRectangle (children_along p b a)
  along_nowhere (Some D.XY) e = xy_nowhere e
  along_nowhere (Some D.M) e = cut_nowhere D.M
  along_nowhere (Some D.N) e = cut_nowhere D.N
  along_nowhere (Some D.Theta) e = cut_nowhere D.Theta
  along_nowhere (Some D.T) e = cut_nowhere D.T
  along_nowhere None e = ((λ t. refl), tt)

  pub nowhere_same : Every SameRectangle (children_of p b)
  unfolding children_of
  nowhere_same = rw ok (along_nowhere (direction_of p b) refl)
