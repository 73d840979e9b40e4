-- Laws of the share: it is 0 of no pixels, it is rounded down, it is 1000 at most, and 1000 of all pixels alone. Assumes nothing.
use mathlib.Core.Path.{◌≡◌, refl, sym}
use mathlib.Core.Logic.{◌↔◌}
use Prim.Native.Nat.{ℕ, ◌+◌, ◌*◌, ◌≤◌, ◌<◌}
use native.Mathlib.Nat.{div-zero, div-mul-le_self, lt-div-mul-add, div-lt_iff_lt-mul, le-div_iff_mul-le}
use native.Mathlib.Omega.{arith}
use Rattle.image.specs.Cell.{share_of}

-- 4095 of 4096, 1999 of 2000 and 2 of 3: to the nearest they would be 1000, 1000 and 667
pub share_worked : (share_of 4095 4096 ≡ 999) × (share_of 1999 2000 ≡ 999) × (share_of 2 3 ≡ 666)
unfolding share_of
share_worked = (refl, refl, refl)

-- of no pixels, as it is answered
pub share_none : (settled pixels : ℕ) → pixels ≡ 0 → 0 ≡ share_of settled pixels
unfolding share_of
share_none settled pixels e = rw e (sym (div-zero (1000 * settled)))

-- rounded down: so many thousandths of the pixels are settled, and not one more
pub share_down : (settled pixels : ℕ) → 1 ≤ pixels
    → (share_of settled pixels * pixels ≤ 1000 * settled) × (1000 * settled < share_of settled pixels * pixels + pixels)
unfolding share_of
share_down settled pixels h = (div-mul-le_self (1000 * settled) pixels, lt-div-mul-add {a = 1000 * settled} {b = pixels} (omega arith))

pub share_most : (settled pixels : ℕ) → 1 ≤ pixels → settled ≤ pixels → share_of settled pixels ≤ 1000
unfolding share_of
share_most settled pixels h k =
    let f : share_of settled pixels < 1001 = (div-lt_iff_lt-mul {k = pixels} {x = 1000 * settled} {y = 1001} (omega arith)).1 (omega arith) in
    omega arith

-- 1000 exactly if every pixel is settled
pub share_all : (settled pixels : ℕ) → 1 ≤ pixels → settled ≤ pixels → (share_of settled pixels ≡ 1000) ↔ (settled ≡ pixels)
unfolding share_of
share_all settled pixels h k =
    let reached = le-div_iff_mul-le {k = pixels} {x = 1000} {y = 1000 * settled} (omega arith) in (
      (λ e. (let f : 1000 * pixels ≤ 1000 * settled = reached.0 (omega (arith, e)) in omega (arith, f))),
      (λ e. (let f : 1000 ≤ share_of settled pixels = reached.1 (omega arith) in omega (arith, f, share_most settled pixels h k))),
    )
