-- Laws of the list of directions in use: its length, and what stands at a place. Assumes nothing.
use Rattle.std.specs.Prelude.{Some, None}
use mathlib.Core.Path.{◌≡◌, refl, sym, ◌∙◌}
use mathlib.Core.Bool.{Bool, true, false, cond}
use mathlib.Core.List.{List, [], ◌∷◌}
use Prim.Native.Nat.{ℕ, zero, suc, ◌+◌, ◌-◌, ◌/◌, ◌%◌, ◌≤◌, ◌<◌}
use native.Mathlib.Omega.{arith}
use lib.ListN.{length}
use borrow.Author.Tests.{ne_eqb}
use Rattle.queue.specs.declared.directions.Direction.{Direction}
use Rattle.queue.specs.declared.directions.Direction.TheVariants as D
use Rattle.queue.specs.Directions.{in_use, used_of, directions, parameters, direction_at}
use Rattle.queue.specs.DirectionsComputed.{ones}

-- a set whose last four digits are 0 uses no parameter
pub unused : (set : ℕ) → set % 16 ≡ 0
    → (in_use set D.M ≡ false) × (in_use set D.N ≡ false) × (in_use set D.Theta ≡ false) × (in_use set D.T ≡ false)
unused set h = (
  ne_eqb (set / 8 % 2) 1 (λ e. omega arith),
  ne_eqb (set / 4 % 2) 1 (λ e. omega arith),
  ne_eqb (set / 2 % 2) 1 (λ e. omega arith),
  ne_eqb (set % 2) 1 (λ e. omega arith),
)

-- one direction more
pub used_length : (set : ℕ) (d : Direction) (ds : List Direction)
    → length (used_of set (d ∷ ds)) ≡ ones (in_use set d) + length (used_of set ds)
unfolding used_of
used_length set d ds = go (in_use set d)
  where
    go : (b : Bool) → length (cond b (d ∷ used_of set ds) (used_of set ds)) ≡ ones b + length (used_of set ds)
    go true = omega arith
    go false = omega arith

-- the counts one by one
module _ (set b c d e : ℕ) (is_m : b ≡ ones (in_use set D.M)) (is_n : c ≡ ones (in_use set D.N))
    (is_theta : d ≡ ones (in_use set D.Theta)) (is_t : e ≡ ones (in_use set D.T)) where
  pub parameters_length : b + c + d + e ≡ length (used_of set parameters)
  parameters_length =
      let none : length (used_of set []) ≡ 0 = unfold used_of in refl in
      rw (is_m, is_n, is_theta, is_t)
      (rw (
        used_length set D.M (D.N ∷ D.Theta ∷ D.T ∷ []),
        used_length set D.N (D.Theta ∷ D.T ∷ []),
        used_length set D.Theta (D.T ∷ []),
        used_length set D.T [],
      )
      (omega arith))

  pub directions_length : (a : ℕ) → a ≡ ones (in_use set D.XY) → a + b + c + d + e ≡ length (directions set)
  unfolding directions
  directions_length a is_xy = rw (is_xy, used_length set D.XY parameters) (omega (arith, parameters_length))

-- the first of a list, where it is in use and asked for
pub at_first : (set : ℕ) (d : Direction) (ds : List Direction) (at k : ℕ) → k ≡ ones (in_use set d) → at < k
    → direction_at (used_of set (d ∷ ds)) at ≡ Some d
unfolding used_of direction_at
at_first set d ds at k e h = go (in_use set d) at (rw e at h)
  where
    go : (b : Bool) (i : ℕ) → i < ones b → direction_at (cond b (d ∷ used_of set ds) (used_of set ds)) i ≡ Some d
    go true zero h = refl
    go true (suc i) h = absurd (omega arith)
    go false i h = absurd (omega arith)

-- and otherwise
pub at_later : (set : ℕ) (d : Direction) (ds : List Direction) (at k : ℕ) → k ≡ ones (in_use set d) → k ≤ at
    → direction_at (used_of set (d ∷ ds)) at ≡ direction_at (used_of set ds) (at - k)
unfolding used_of direction_at
at_later set d ds at k e h = rw e (go (in_use set d) at (rw e at h))
  where
    go : (b : Bool) (i : ℕ) → ones b ≤ i
        → direction_at (cond b (d ∷ used_of set ds) (used_of set ds)) i ≡ direction_at (used_of set ds) (i - ones b)
    go true zero h = absurd (omega arith)
    go true (suc i) h = let e : suc i - 1 ≡ i = omega arith in rw e
    go false i h = let e : i - 0 ≡ i = omega arith in rw e

-- the places of the parameters in use, by the counts of those before
module _ (set at : ℕ) (m : ℕ) (is_m : m ≡ ones (in_use set D.M)) where
  pub m_at : at < m → Some D.M ≡ direction_at (used_of set parameters) at
  m_at h = sym (at_first set D.M (D.N ∷ D.Theta ∷ D.T ∷ []) at m is_m h)

  module _ (n : ℕ) (is_n : n ≡ ones (in_use set D.N)) where
    past_m : m ≤ at → direction_at (used_of set parameters) at
        ≡ direction_at (used_of set (D.N ∷ D.Theta ∷ D.T ∷ [])) (at - m)
    past_m h = at_later set D.M (D.N ∷ D.Theta ∷ D.T ∷ []) at m is_m h

    pub n_at : m ≤ at → at < m + n → Some D.N ≡ direction_at (used_of set parameters) at
    n_at h k = sym (past_m h ∙ at_first set D.N (D.Theta ∷ D.T ∷ []) (at - m) n is_n (omega arith))

    past_n : m + n ≤ at → direction_at (used_of set parameters) at
        ≡ direction_at (used_of set (D.Theta ∷ D.T ∷ [])) (at - m - n)
    past_n h = past_m (omega arith) ∙ at_later set D.N (D.Theta ∷ D.T ∷ []) (at - m) n is_n (omega arith)

    module _ (theta : ℕ) (is_theta : theta ≡ ones (in_use set D.Theta)) where
      pub theta_at : m + n ≤ at → at < m + n + theta → Some D.Theta ≡ direction_at (used_of set parameters) at
      theta_at h k = sym (past_n h ∙ at_first set D.Theta (D.T ∷ []) (at - m - n) theta is_theta (omega arith))

      past_theta : m + n + theta ≤ at
          → direction_at (used_of set parameters) at ≡ direction_at (used_of set (D.T ∷ [])) (at - m - n - theta)
      past_theta h = past_n (omega arith) ∙ at_later set D.Theta (D.T ∷ []) (at - m - n) theta is_theta (omega arith)

      module _ (t : ℕ) (is_t : t ≡ ones (in_use set D.T)) where
        pub t_at : m + n + theta ≤ at → at < m + n + theta + t → Some D.T ≡ direction_at (used_of set parameters) at
        t_at h k = sym (past_theta h ∙ at_first set D.T [] (at - m - n - theta) t is_t (omega arith))

        pub beyond_all : m + n + theta + t ≤ at → None ≡ direction_at (used_of set parameters) at
        beyond_all h =
            sym (past_theta (omega arith) ∙ at_later set D.T [] (at - m - n - theta) t is_t (omega arith)
            ∙ unfold used_of direction_at in refl)
