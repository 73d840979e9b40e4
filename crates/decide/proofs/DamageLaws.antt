-- Laws of legal pictures and undamaged blocks. Assumes nothing.
use mathlib.Core.Path.{◌≡◌, refl, sym, ap, ◌∙◌}
use mathlib.Core.Bool.{Bool, true, false, ◌&&◌, not, ◌||◌, false≢true}
use Prim.Native.Nat.{ℕ, ◌≤◌}
use lib.Dec.{leb, eqb}
use borrow.Author.Tests.{leb-true, eqb-true, eq-eqb}
use Rattle.base.proofs.Test.{and_left, and_right, and_both}
use Rattle.coordinate.specs.declared.Coordinate.{Coordinate}
use Rattle.coordinate.specs.Axis.{ordinary_floor, inside}
use Rattle.coordinate.specs.Lone.{legal}
use Rattle.interval.specs.Bounds.{legal_interval, whole_bound, legal_bounds, same_interval}
use lib.Ieee.{Float, nan, inf, fin, eq, le, lt}
use Rattle.interval.specs.declared.Interval.{Interval}
use Rattle.queue.specs.Block.{whole_line}
use Rattle.queue.specs.declared.Block.{Block}
use Rattle.decide.specs.declared.Chosen.{Chosen}
use Rattle.decide.specs.Damage.{legal_side, legal_chosen, direction_of, place_right, direction_right, parameters_right}
use Rattle.decide.specs.Damage.{undamaged, sound}

-- WHAT THE TESTS SAY

four : (a b c d : Bool) → a && b && c && d ≡ true → (a ≡ true) × (b ≡ true) × (c ≡ true) × (d ≡ true)
four a b c d e =
    let abc = and_left (a && b && c) d e in
    let ab = and_left (a && b) c abc in
    (and_left a b ab, and_right a b ab, and_right (a && b) c abc, and_right (a && b && c) d e)

pub record LegalChosen (p : Chosen) : Type 0 where
  pub width_some : 1 ≤ p.width
  pub width_most : p.width ≤ 32768
  pub height_some : 1 ≤ p.height
  pub height_most : p.height ≤ 32768
  pub set_most : p.set ≤ 63

pub legal_chosen_lem : (p : Chosen) → legal_chosen p ≡ true → LegalChosen p
unfolding legal_chosen
legal_chosen_lem p e =
    let sides = and_left (legal_side p.width && legal_side p.height) (leb p.set 63) e in
    let w = and_left (legal_side p.width) (legal_side p.height) sides in
    let h = and_right (legal_side p.width) (legal_side p.height) sides in
    record {
      width_some = leb-true 1 p.width (and_left (leb 1 p.width) (leb p.width 32768) w);
      width_most = leb-true p.width 32768 (and_right (leb 1 p.width) (leb p.width 32768) w);
      height_some = leb-true 1 p.height (and_left (leb 1 p.height) (leb p.height 32768) h);
      height_most = leb-true p.height 32768 (and_right (leb 1 p.height) (leb p.height 32768) h);
      set_most = leb-true p.set 63 (and_right (legal_side p.width && legal_side p.height) (leb p.set 63) e);
    }

-- a coordinate that is in the ranges and begins inside
pub record Placed (side : ℕ) (c : Coordinate) : Type 0 where
  pub in_ranges : legal ordinary_floor c ≡ true
  pub inside_side : inside side c.rank c.index ≡ true

pub placed : (side : ℕ) (c : Coordinate) → place_right side c ≡ true → Placed side c
placed side c e =
    let l = legal ordinary_floor c in
    let i = inside side c.rank c.index in
    record { in_ranges = and_left l i e; inside_side = and_right l i e }

pub place : (side : ℕ) (c : Coordinate) → Placed side c → place_right side c ≡ true
place side c h = and_both (legal ordinary_floor c) (inside side c.rank c.index) h.in_ranges h.inside_side

-- all four parameters are legal
pub record LegalParameters (b : Block) : Type 0 where
  pub m : legal_interval b.m true ≡ true
  pub n : legal_interval b.n true ≡ true
  pub theta : legal_interval b.theta true ≡ true
  pub t : legal_interval b.t false ≡ true

pub legal_parameters : (b : Block) → parameters_right b ≡ true → LegalParameters b
legal_parameters b e =
    let f = four (legal_interval b.m true) (legal_interval b.n true) (legal_interval b.theta true) (legal_interval b.t false) e in
    record { m = f.0; n = f.1; theta = f.2; t = f.3 }

pub parameters_legal : (b : Block) → LegalParameters b → parameters_right b ≡ true
parameters_legal b l = rw (l.m, l.n, l.theta, l.t)

pub record Undamaged (p : Chosen) (b : Block) : Type 0 where
  pub ranks : b.x.rank ≡ b.y.rank
  pub x : Placed p.width b.x
  pub y : Placed p.height b.y
  pub directed : direction_right p b (direction_of p b) ≡ true
  pub parameters : LegalParameters b

pub is_undamaged : (p : Chosen) (b : Block) → undamaged p b ≡ true → Undamaged p b
unfolding undamaged
is_undamaged p b e =
    let r = eqb b.x.rank b.y.rank in
    let x = place_right p.width b.x in
    let y = place_right p.height b.y in
    let d = direction_right p b (direction_of p b) in
    let f = four r x y d (and_left (r && x && y && d) (parameters_right b) e) in
    record {
      ranks = eqb-true b.x.rank b.y.rank f.0;
      x = placed p.width b.x f.1;
      y = placed p.height b.y f.2;
      directed = f.3;
      parameters = legal_parameters b (and_right (r && x && y && d) (parameters_right b) e);
    }

pub undamaged_is : (p : Chosen) (b : Block) → Undamaged p b → undamaged p b ≡ true
unfolding undamaged
undamaged_is p b u =
    let x = place p.width b.x u.x in
    let y = place p.height b.y u.y in
    rw (eq-eqb b.x.rank b.y.rank u.ranks, x, y, u.directed, parameters_legal b u.parameters)

-- a legal picture and an undamaged block of it
pub record Sound (p : Chosen) (b : Block) : Type 0 where
  pub chosen : LegalChosen p
  pub block : Undamaged p b

pub is_sound : (p : Chosen) (b : Block) → sound p b ≡ true → Sound p b
is_sound p b e =
    record {
      chosen = legal_chosen_lem p (and_left (legal_chosen p) (undamaged p b) e);
      block = is_undamaged p b (and_right (legal_chosen p) (undamaged p b) e);
    }

-- another undamaged block of the same picture
pub sound_from : (p : Chosen) (b d : Block) → sound p b ≡ true → undamaged p d ≡ true → sound p d ≡ true
sound_from p b d e f = and_both (legal_chosen p) (undamaged p d) (and_left (legal_chosen p) (undamaged p b) e) f

-- the whole line is legal for every parameter
whole_legal : (x : Interval) (integer : Bool) → same_interval x whole_line ≡ true → legal_interval x integer ≡ true
unfolding same_interval legal_interval eq le lt whole_bound
whole_legal x integer h = go x.lower x.upper integer h
  where
    go : (a b : Float) (k : Bool) → (eq a (inf true) && eq b (inf false)) ≡ true
        → (legal_bounds a b && (not k || (whole_bound a && whole_bound b))) ≡ true
    go nan b k h = absurd (false≢true h)
    go (fin s m e) b k h = absurd (false≢true h)
    go (inf false) b k h = absurd (false≢true h)
    go (inf true) nan k h = absurd (false≢true h)
    go (inf true) (fin s m e) k h = absurd (false≢true h)
    go (inf true) (inf true) k h = absurd (false≢true h)
    go (inf true) (inf false) true h = refl
    go (inf true) (inf false) false h = refl

pub line_legal : (x l : Interval) (integer same : Bool)
    → l ≡ whole_line → same ≡ same_interval x l → same ≡ true → true ≡ legal_interval x integer
line_legal x l integer same e f h = sym (whole_legal x integer (ap (λ (y : Interval). same_interval x y) (sym e) ∙ sym f ∙ h))
