-- The first blocks one by one: the i-th of the product is the i-th of the list. Assumes nothing.
use mathlib.Core.Path.{◌≡◌, sym, ap, ◌∙◌}
use mathlib.Core.Bool.{Bool, true, false}
use Prim.Native.Nat.{ℕ, zero, suc, ◌+◌, ◌*◌, ◌/◌, ◌%◌, ◌≤◌, ◌<◌}
use native.Mathlib.Omega.{arith}
use native.Mathlib.Nat.{zero-mul, mul-le-mul}
use Rattle.interval.specs.declared.Interval.{Interval}
use Rattle.std.specs.Prelude.{Result, Ok}
use Rattle.refusal.specs.declared.Refusal.{Refusal}
use Rattle.interval.specs.declared.Pieces.{Pieces}
use Rattle.interval.specs.declared.Pieces.TheVariants as C
use Rattle.interval.specs.Bounds.{legal_interval, put_interval}
use Rattle.interval.specs.Cuts.{first_cut}
use Rattle.interval.specs.Answers.{pieces_at}
use Rattle.queue.specs.declared.Block.{Block}
use Rattle.queue.specs.declared.directions.Direction.{Direction}
use Rattle.queue.specs.declared.directions.Direction.TheVariants as D
use Rattle.queue.specs.Directions.{in_use}
use Rattle.queue.specs.Block.{whole_line, is_integer, with_parameter, as_queued}
use Rattle.decide.specs.declared.Chosen.{Chosen}
use Rattle.implicit.specs.declared.state.Ranges.{Ranges}
use Rattle.implicit.specs.declared.first.Product.{Product}
use Rattle.implicit.specs.declared.first.Picked.{Picked}
use Rattle.implicit.specs.Setup.{start_level, root_block}
use Rattle.implicit.specs.SetupComputed.{pieces_kept, product_of, piece_count, piece_at, picked_by, product_count, product_at}

-- THE WHOLE BLOCK

pub root_made : (p : Chosen) (r : Ranges) (k : ℕ) → k ≡ start_level p
    → as_queued p.set (record {
      x = record { index = 0; rank = 48 + k };
      y = record { index = 0; rank = 48 + k };
      m = r.m;
      n = r.n;
      theta = r.theta;
      t = r.t;
      dir = 0;
    })
    ≡ root_block p r
unfolding as_queued root_block
root_made p r k e = rw e

-- THE PIECES, as the code has them

module _ (set : ℕ) (d : Direction) (range : Interval) (used : Bool) (is : used ≡ in_use set d) where
  pub pieces_used : (integer : Bool) (c : Result Pieces Refusal) → used ≡ true → integer ≡ is_integer d
      → c ≡ pieces_at (legal_interval range integer) (first_cut (put_interval range) integer)
      → c ≡ pieces_kept set d range
  unfolding pieces_kept
  pieces_used integer c u i e = e ∙ rw (i, sym is ∙ u)

  pub pieces_unused : (line : Interval) → used ≡ false → line ≡ whole_line → Ok (C.One line) ≡ pieces_kept set d range
  unfolding pieces_kept
  pieces_unused line u e = rw (e, sym is ∙ u)

-- at most three
pub nine : (a b : ℕ) → a ≤ 3 → b ≤ 3 → a * b ≤ 9
nine a b h k = mul-le-mul h k

pub more : (a b : ℕ) → a ≤ 9 → b ≤ 3 → a * b ≤ 27
more a b h k = mul-le-mul h k

pub most : (a b : ℕ) → a ≤ 27 → b ≤ 3 → a * b ≤ 81
most a b h k = mul-le-mul h k

pub count_made : (f : Product) (a b c d : ℕ) → a ≡ piece_count f.m → b ≡ piece_count f.n → c ≡ piece_count f.theta
    → d ≡ piece_count f.t → a * b * c * d ≡ product_count f
unfolding product_count
count_made f a b c d e g h k = rw (e, g, h, k)

-- a product that is not 0 has no factor 0
left_some : (a b : ℕ) → 0 < a * b → 0 < a
left_some zero b h = absurd (omega (arith, h, zero-mul b))
left_some (suc a) b h = omega arith

right_some : (a b : ℕ) → 0 < a * b → 0 < b
right_some a zero h = absurd (omega (arith, h))
right_some a (suc b) h = omega arith

pub record Some (f : Product) : Type 0 where
  pub m : 0 < piece_count f.m
  pub n : 0 < piece_count f.n
  pub theta : 0 < piece_count f.theta
  pub t : 0 < piece_count f.t

pub some : (f : Product) → 0 < product_count f → Some f
unfolding product_count
some f h =
    let a = piece_count f.m in
    let b = piece_count f.n in
    let c = piece_count f.theta in
    let d = piece_count f.t in
    let h₁ = left_some (a * b * c) d h in
    let h₂ = left_some (a * b) c h₁ in
    record { m = left_some a b h₂; n = right_some a b h₂; theta = right_some (a * b) c h₁; t = right_some (a * b * c) d h }

-- WHAT IS CHOSEN

pub picked_made : (k : Picked) (d : Direction) (c : Result Pieces Refusal) (n : ℕ) (piece : Interval) (block : Block) → n ≡ piece_count c
    → piece ≡ piece_at c (k.left % n) → block ≡ with_parameter k.block d piece
    → record { block = block; left = k.left / n } ≡ picked_by d c k
picked_made k d c n piece block e f g = rw (g, f, e)

pub product_made : (p : Chosen) (r : Ranges) (root : Block) (m n theta t : Result Pieces Refusal) → root ≡ root_block p r
    → m ≡ pieces_kept p.set D.M r.m → n ≡ pieces_kept p.set D.N r.n
    → theta ≡ pieces_kept p.set D.Theta r.theta → t ≡ pieces_kept p.set D.T r.t
    → record { root = root; m = m; n = n; theta = theta; t = t } ≡ product_of p r
unfolding product_of
product_made p r root m n theta t e f g h i = rw (e, f, g, h, i)

pub at_made : (f : Product) (i : ℕ) (k₁ k₂ k₃ k₄ : Picked) → k₁ ≡ picked_by D.T f.t (record { block = f.root; left = i })
    → k₂ ≡ picked_by D.Theta f.theta k₁
    → k₃ ≡ picked_by D.N f.n k₂ → k₄ ≡ picked_by D.M f.m k₃ → k₄.block ≡ product_at f i
unfolding product_at
at_made f i k₁ k₂ k₃ k₄ e g h l =
    ap (λ (k : Picked). k.block)
    (l ∙ ap (picked_by D.M f.m) (h ∙ ap (picked_by D.N f.n) (g ∙ ap (picked_by D.Theta f.theta) e)))
