-- Sums over i < n, and over a rectangle: neighbours added in pairs, the last perhaps alone, make up the row; four by four they make up the
-- rectangle. Assumes nothing.
use mathlib.Core.Path.{◌≡◌, refl, sym, ◌∙◌}
use mathlib.Core.Bool.{Bool, true, false, cond}
use Prim.Native.Nat.{ℕ, zero, suc, ◌+◌, ◌-◌, ◌*◌, ◌/◌, ◌≤◌, ◌<◌}
use native.Mathlib.Nat.{add-zero, add-suc}
use native.Mathlib.Omega.{arith}
use lib.Dec.{ltb}
use borrow.Author.Tests.{lt-ltb, le-ltb}
use Rattle.theory.specs.Levels.{sum_to}

-- a value that counts only below N
unfoldable pub up_to : ℕ → (ℕ → ℕ) → ℕ → ℕ
up_to N f i = cond (ltb i N) (f i) zero

pub sum_cong : (n : ℕ) (f g : ℕ → ℕ) → ((i : ℕ) → i < n → f i ≡ g i) → sum_to n f ≡ sum_to n g
unfolding sum_to
sum_cong zero f g h = refl
sum_cong (suc n) f g h = let a = sum_cong n f g (λ i k. h i (omega arith)) in let b = h n (omega arith) in omega arith

pub sum_add : (n : ℕ) (f g : ℕ → ℕ) → sum_to n (λ i. f i + g i) ≡ sum_to n f + sum_to n g
unfolding sum_to
sum_add zero f g = refl
sum_add (suc n) f g = let a = sum_add n f g in omega arith

pub sum_const : (n c : ℕ) → sum_to n (λ i. c) ≡ n * c
unfolding sum_to
sum_const zero c = omega arith
sum_const (suc n) c = let a = sum_const n c in omega arith

sum_pairs : (m : ℕ) (f : ℕ → ℕ) → sum_to (m + m) f ≡ sum_to m (λ i. f (i + i) + f (suc (i + i)))
unfolding sum_to
sum_pairs zero f = refl
sum_pairs (suc m) f =
    let e : suc m + suc m ≡ suc (suc (m + m)) = omega arith in
    let a = sum_pairs m f in
    rw e (omega arith)

below_n : (N : ℕ) (f : ℕ → ℕ) (i : ℕ) → i < N → up_to N f i ≡ f i
unfolding up_to
below_n N f i h = rw (lt-ltb i N h)

from_n : (N : ℕ) (f : ℕ → ℕ) (i : ℕ) → N ≤ i → up_to N f i ≡ zero
unfolding up_to
from_n N f i h = rw (le-ltb i N h)

sum_up_to : (N k : ℕ) (f : ℕ → ℕ) → sum_to (N + k) (up_to N f) ≡ sum_to N f
unfolding sum_to
sum_up_to N zero f = rw add-zero (sum_cong N (up_to N f) f (below_n N f))
sum_up_to N (suc k) f = let a = sum_up_to N k f in let b = from_n N f (N + k) (omega arith) in rw add-suc (omega arith)

-- pairs of neighbours
pub pairing : (N : ℕ) (f : ℕ → ℕ) → sum_to ((N + 1) / 2) (λ i. up_to N f (i + i) + up_to N f (suc (i + i))) ≡ sum_to N f
pairing N f =
    let e : (N + 1) / 2 + (N + 1) / 2 ≡ N + ((N + 1) / 2 + (N + 1) / 2 - N) = omega arith in
    sym (sum_pairs ((N + 1) / 2) (up_to N f)) ∙ rw e (sum_up_to N ((N + 1) / 2 + (N + 1) / 2 - N) f)

-- over a rectangle
unfoldable pub grid : ℕ → ℕ → (ℕ → ℕ → ℕ) → ℕ
grid Nx Ny f = sum_to Ny (λ y. sum_to Nx (λ x. f x y))

unfoldable pub up_to_both : ℕ → ℕ → (ℕ → ℕ → ℕ) → ℕ → ℕ → ℕ
up_to_both Nx Ny f x y = up_to Ny (λ v. up_to Nx (λ u. f u v) x) y

pub grid_cong : (Nx Ny : ℕ) (f g : ℕ → ℕ → ℕ) → ((x y : ℕ) → x < Nx → y < Ny → f x y ≡ g x y) → grid Nx Ny f ≡ grid Nx Ny g
unfolding grid
grid_cong Nx Ny f g h = sum_cong Ny (λ y. sum_to Nx (λ x. f x y)) (λ y. sum_to Nx (λ x. g x y)) (λ y k. sum_cong Nx (λ x. f x y) (λ x. g x y) (λ x l. h x y l k))

pub grid_suc : (Nx Ny : ℕ) (g : ℕ → ℕ → ℕ) → grid Nx Ny (λ x y. 1 + g x y) ≡ Nx * Ny + grid Nx Ny g
unfolding grid
grid_suc Nx Ny g =
    sum_cong Ny (λ y. sum_to Nx (λ x. 1 + g x y)) (λ y. Nx + sum_to Nx (λ x. g x y))
    (λ y k. (let a = sum_add Nx (λ x. 1) (λ x. g x y) in let b = sum_const Nx 1 in omega arith))
    ∙ (let a = sum_add Ny (λ y. Nx) (λ y. sum_to Nx (λ x. g x y)) in let b = sum_const Ny Nx in omega arith)

-- the share of one place of the level above in a sum over a rectangle: its four quarters
unfoldable pub four : ℕ → ℕ → (ℕ → ℕ → ℕ) → ℕ → ℕ → ℕ
four Nx Ny f x y =
    up_to_both Nx Ny f (x + x) (y + y) + up_to_both Nx Ny f (suc (x + x)) (y + y)
    + (up_to_both Nx Ny f (x + x) (suc (y + y)) + up_to_both Nx Ny f (suc (x + x)) (suc (y + y)))

row : (N m : ℕ) (f : ℕ → ℕ) (k : Bool) → m ≡ (N + 1) / 2
    → sum_to m (λ x. cond k (up_to N f (x + x)) zero + cond k (up_to N f (suc (x + x))) zero) ≡ cond k (sum_to N f) zero
row N m f true e = rw e (pairing N f)
row N m f false e = sum_const m (0 + 0) ∙ omega arith

pub four_by_four : (Nx Ny : ℕ) (f : ℕ → ℕ → ℕ) → grid ((Nx + 1) / 2) ((Ny + 1) / 2) (four Nx Ny f) ≡ grid Nx Ny f
unfolding grid up_to_both four
four_by_four Nx Ny f = sum_cong ((Ny + 1) / 2) (λ y. sum_to ((Nx + 1) / 2) (λ x. four Nx Ny f x y)) (λ y. up_to Ny S (y + y) + up_to Ny S (suc (y + y))) each
    ∙ pairing Ny S
  where
    g : ℕ → ℕ → ℕ
    g = up_to_both Nx Ny f

    S : ℕ → ℕ
    S y = sum_to Nx (λ x. f x y)

    R : (y : ℕ) → sum_to ((Nx + 1) / 2) (λ x. g (x + x) y + g (suc (x + x)) y) ≡ up_to Ny S y
    R y = unfold up_to in row Nx ((Nx + 1) / 2) (λ x. f x y) (ltb y Ny) refl

    each : (y : ℕ) → y < (Ny + 1) / 2 → sum_to ((Nx + 1) / 2) (λ x. four Nx Ny f x y) ≡ up_to Ny S (y + y) + up_to Ny S (suc (y + y))
    each y h =
        sum_add ((Nx + 1) / 2) (λ x. g (x + x) (y + y) + g (suc (x + x)) (y + y)) (λ x. g (x + x) (suc (y + y)) + g (suc (x + x)) (suc (y + y)))
        ∙ (let a = R (y + y) in let b = R (suc (y + y)) in omega arith)
