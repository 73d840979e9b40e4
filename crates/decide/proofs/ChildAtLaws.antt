-- Laws of child j: it is the listing's child j, and lies where the place of child j says. Assumes nothing.
use Rattle.std.specs.Prelude.{Option, Some, None}
use mathlib.Core.Path.{◌≡◌, refl, sym, ap, subst, ◌∙◌}
use mathlib.Core.Bool.{Bool, true, false, cond, ◌&&◌}
use mathlib.Core.List.{List, [], ◌∷◌, ◌++◌, map}
use Prim.Native.Nat.{ℕ, zero, suc, ◌-◌, ◌^◌, ◌≤◌, ◌<◌}
use native.Mathlib.Omega.{arith}
use lib.Dec.{ltb}
use lib.ListN.{length, get_or, replicate, get_or-map}
use borrow.Author.Tests.{ltb-true, ltb-false, lt-ltb, le-leb, lt-leb}
use Rattle.base.proofs.Test.{cases}
use Rattle.coordinate.specs.declared.Coordinate.{Coordinate}
use Rattle.coordinate.specs.Axis.{ordinary_floor, above_floor, inside}
use Rattle.coordinate.specs.Lone.{legal, low_half, high_half}
use Rattle.coordinate.proofs.PixelLaws.{ranged}
use Rattle.interval.specs.Bounds.{legal_interval, put_interval}
use Rattle.interval.specs.Cuts.{later_cut}
use Rattle.queue.specs.declared.Block.{Block}
use Rattle.queue.specs.declared.directions.Direction.{Direction}
use Rattle.queue.specs.declared.directions.Direction.TheVariants as D
use Rattle.queue.specs.Block.{is_integer, parameter_of, with_parameter}
use Rattle.decide.specs.declared.Chosen.{Chosen}
use Rattle.decide.specs.declared.children.Cut.{Cut}
use Rattle.decide.specs.Damage.{sound, direction_of}
use Rattle.decide.specs.Children.{moved_to, quarters_of, kept_inside, children_xy, children_cut, children_along, children_of}
use Rattle.decide.specs.ChildAt.{half_of, place_along, place_of, piece_of, child_along, child_of, is_kept, right_listed, cut_of}
use Rattle.decide.specs.ChildrenComputed.{quarter_count}
use Rattle.decide.proofs.DamageLaws.{Placed, is_sound}
use Rattle.decide.proofs.ListingLaws.{half_legal, low_begins, cut_along}

-- LISTS

-- in a list, what stands behind it does not matter
any_default : {A : Type 0} (l : List A) (j : ℕ) (d e : A) → j < length l → get_or l j d ≡ get_or l j e
any_default [] j d e h = absurd (omega arith)
any_default (x ∷ l) zero d e h = refl
any_default (x ∷ l) (suc j) d e h = any_default l j d e (omega arith)

-- a list of up to four as an array
pub four_places : (l : List Block) (b : Block) → length l ≤ 4
    → get_or l 0 b ∷ get_or l 1 b ∷ get_or l 2 b ∷ get_or l 3 b ∷ [] ≡ l ++ replicate (4 - length l) b
four_places [] b h = refl
four_places (q ∷ []) b h = refl
four_places (q ∷ r ∷ []) b h = refl
four_places (q ∷ r ∷ o ∷ []) b h = refl
four_places (q ∷ r ∷ o ∷ w ∷ []) b h = refl
four_places (q ∷ r ∷ o ∷ w ∷ v ∷ l) b h = absurd (omega arith)

-- THE QUARTERS

-- a coordinate inside its side and above the floor has halves
pub record Halved (c : Coordinate) : Type 0 where
  pub low : half_of c false ≡ low_half c
  pub high : half_of c true ≡ high_half c

halved : (side : ℕ) (c : Coordinate) → Placed side c → above_floor ordinary_floor c.rank ≡ true → Halved c
unfolding half_of
halved side c l up =
    let r = lt-ltb 0 c.rank (omega (arith, ltb-true ordinary_floor c.rank up)) in
    let i = lt-ltb c.index (2 ^ 47) (ranged ordinary_floor c.rank c.index l.in_ranges).bound in
    record { low = rw (r, i); high = rw (r, i) }

abbrev listed_if : Bool → Block → List Block → List Block
listed_if t q l = cond t (q ∷ l) l

-- the first quarter, and those at the high halves as far as these are listed
abbrev quarters_by : Block → Bool → Bool → List Block
quarters_by b right above =
    moved_to b (low_half b.x) (low_half b.y) ∷ listed_if right (moved_to b (high_half b.x) (low_half b.y))
    (listed_if above (moved_to b (low_half b.x) (high_half b.y)) (listed_if (right && above) (moved_to b (high_half b.x) (high_half b.y)) []))

pub quarters_count : (b : Block) (right above : Bool) → quarter_count right above ≡ length (quarters_by b right above)
quarters_count b true true = refl
quarters_count b true false = refl
quarters_count b false true = refl
quarters_count b false false = refl

moved_same : (b : Block) (x x' y y' : Coordinate) → x ≡ x' → y ≡ y' → moved_to b x y ≡ moved_to b x' y'
moved_same b x x' y y' e f = rw (e, f)

-- quarter j, by the halves
module _ (b d : Block) (hx : Halved b.x) (hy : Halved b.y) where
  abbrev same : (x x' y y' : Coordinate) → x ≡ x' → y ≡ y' → moved_to b x y ≡ moved_to b x' y'
  same = moved_same b

  quarter_at : (right above : Bool) (j : ℕ) → j < length (quarters_by b right above)
      → child_along (Some D.XY) right b j ≡ get_or (quarters_by b right above) j d
  quarter_at true true zero h = same _ _ _ _ hx.low hy.low
  quarter_at true true (suc zero) h = same _ _ _ _ hx.high hy.low
  quarter_at true true (suc (suc zero)) h = same _ _ _ _ hx.low hy.high
  quarter_at true true (suc (suc (suc zero))) h = same _ _ _ _ hx.high hy.high
  quarter_at true true (suc (suc (suc (suc j)))) h = absurd (omega arith)
  quarter_at true false zero h = same _ _ _ _ hx.low hy.low
  quarter_at true false (suc zero) h = same _ _ _ _ hx.high hy.low
  quarter_at true false (suc (suc j)) h = absurd (omega arith)
  quarter_at false true zero h = same _ _ _ _ hx.low hy.low
  quarter_at false true (suc zero) h = same _ _ _ _ hx.low hy.high
  quarter_at false true (suc (suc j)) h = absurd (omega arith)
  quarter_at false false zero h = same _ _ _ _ hx.low hy.low
  quarter_at false false (suc j) h = absurd (omega arith)

-- the quarters that begin inside are those whose high halves do
inside_by : (q r o w : Block) (s t : Bool)
    → q ∷ listed_if s r (listed_if t o (listed_if (s && t) w [])) ≡ q ∷ listed_if (s && true) r (listed_if t o (listed_if (s && t) w []))
inside_by q r o w true t = refl
inside_by q r o w false t = refl

module _ (p : Chosen) (b : Block) (ok : sound p b ≡ true) (up : above_floor ordinary_floor b.x.rank ≡ true) where
  pub x_halved : Halved b.x
  x_halved = halved p.width b.x (is_sound p b ok).block.x up

  pub y_halved : Halved b.y
  y_halved = let s = (is_sound p b ok).block in halved p.height b.y s.y (rw (← s.ranks) up)

  abbrev pub right_kept : Bool
  right_kept = is_kept b.x.rank (high_half b.x) p.width

  abbrev pub above_kept : Bool
  above_kept = is_kept b.x.rank (high_half b.y) p.height

  pub kept_quarters : quarters_by b right_kept above_kept ≡ children_xy p b
  unfolding children_xy kept_inside quarters_of
  kept_quarters =
      let s = (is_sound p b ok).block in
      let i = low_begins p.width b.x s.x up in
      let j = low_begins p.height b.y s.y (rw (← s.ranks) up) in
      let u = inside p.width (high_half b.x).rank (high_half b.x).index in
      let v = inside p.height (high_half b.y).rank (high_half b.y).index in
      cases (ltb 48 b.x.rank)
      (λ e. rw (e, lt-leb b.x.rank 48 (ltb-true 48 b.x.rank e), i, j)
      (inside_by (moved_to b (low_half b.x) (low_half b.y)) (moved_to b (high_half b.x) (low_half b.y))
      (moved_to b (low_half b.x) (high_half b.y)) (moved_to b (high_half b.x) (high_half b.y)) u v))
      (λ e. rw (e, le-leb b.x.rank 48 (ltb-false 48 b.x.rank e)))

  -- both high halves are in the ranges
  pub right_legal : legal ordinary_floor (half_of b.x true) ≡ true
  right_legal =
      let s = is_sound p b ok in
      rw x_halved.high (half_legal p.width b.x s.chosen.width_most s.block.x up).1

  pub above_legal : legal ordinary_floor (half_of b.y true) ≡ true
  above_legal =
      let s = is_sound p b ok in
      rw y_halved.high (half_legal p.height b.y s.chosen.height_most s.block.y (rw (← s.block.ranks) up)).1

-- THE PIECES

piece_at : (b d : Block) (e : Direction) (j : ℕ) → legal_interval (parameter_of b e) (is_integer e) ≡ true → j < length (children_cut b e)
    → with_parameter b e (piece_of (parameter_of b e) (is_integer e) j) ≡ get_or (children_cut b e) j d
unfolding children_cut piece_of
piece_at b d e j legal_here h =
    let x = parameter_of b e in
    let l = later_cut (put_interval x) (is_integer e) in
    rw legal_here (sym (get_or-map (with_parameter b e) l j x) ∙ any_default (map (with_parameter b e) l) j (with_parameter b e x) d h)

-- CHILD J

module _ (p : Chosen) (b : Block) (ok : sound p b ≡ true) where
  child_along_lem : (a : Option Direction) → a ≡ direction_of p b → (j : ℕ) (d : Block) → j < length (children_along p b a)
      → child_along a (right_listed p b a) b j ≡ get_or (children_along p b a) j d
  child_along_lem (Some D.XY) e j d h =
      let up = cut_along p b D.XY ok (sym e) refl in
      let k = kept_quarters p b ok up in
      let i : j < length (quarters_by b (right_kept p b ok up) (above_kept p b ok up)) = subst (λ (l : List Block). j < length l) (sym k) h in
      quarter_at b d (x_halved p b ok up) (y_halved p b ok up) (right_kept p b ok up) (above_kept p b ok up) j i
      ∙ ap (λ (l : List Block). get_or l j d) k
  child_along_lem (Some D.M) e j d h = piece_at b d D.M j (is_sound p b ok).block.parameters.m h
  child_along_lem (Some D.N) e j d h = piece_at b d D.N j (is_sound p b ok).block.parameters.n h
  child_along_lem (Some D.Theta) e j d h = piece_at b d D.Theta j (is_sound p b ok).block.parameters.theta h
  child_along_lem (Some D.T) e j d h = piece_at b d D.T j (is_sound p b ok).block.parameters.t h
  child_along_lem None e zero d h = refl
  child_along_lem None e (suc j) d h = absurd (omega arith)

  along_sound : children_of p b ≡ children_along p b (direction_of p b)
  unfolding children_of
  along_sound = rw ok

  -- child j is the listing's, with any block behind the list
  pub child_of_any : (j : ℕ) → j < length (children_of p b) → (d : Block) → child_of (cut_of p b) b j ≡ get_or (children_of p b) j d
  unfolding child_of cut_of
  child_of_any j h d =
      let a = direction_of p b in
      let i : j < length (children_along p b a) = rw (← along_sound) h in
      let e : child_along a (sound p b && right_listed p b a) b j ≡ child_along a (right_listed p b a) b j = rw ok in
      e ∙ child_along_lem a refl j d i ∙ sym (ap (λ (l : List Block). get_or l j d) along_sound)

  pub child_of_lem : (j : ℕ) → j < length (children_of p b) → child_of (cut_of p b) b j ≡ get_or (children_of p b) j b
  child_of_lem j h = child_of_any j h b

-- child j lies where the place of child j says
pub child_place : (k : Cut) (b : Block) (j : ℕ)
    → ((child_of k b j).x ≡ (place_of k b.x b.y j).x) × ((child_of k b j).y ≡ (place_of k b.x b.y j).y)
unfolding child_of
child_place k b j = go k.along k.right
  where
    go : (a : Option Direction) (right : Bool)
        → ((child_along a right b j).x ≡ (place_along a right b.x b.y j).x) × ((child_along a right b j).y ≡ (place_along a right b.x b.y j).y)
    go (Some D.XY) right = (refl, refl)
    go (Some D.M) right = (refl, refl)
    go (Some D.N) right = (refl, refl)
    go (Some D.Theta) right = (refl, refl)
    go (Some D.T) right = (refl, refl)
    go None right = (refl, refl)
