-- The decimal text of a 64-bit number is std's. Assumes nothing.
use Rattle.std.proofs.Common.{◌≡◌, ℕ, zero, suc, ◌+◌, ◌*◌, ◌/◌, ◌%◌, ◌^◌, ◌≤◌, ◌<◌, List, [], ◌∷◌, ◌++◌, refl, sym, ap, ◌∙◌, inl, inr, add-one, arith}
use Rattle.std.proofs.Math.Nat.{div-div-eq-div-mul, div-lt_iff_lt-mul, le-div_iff_mul-le, pow-suc, pow-succ'}
use Rattle.std.proofs.lemmas.Bool.{cases_lt}
use Rattle.std.proofs.lemmas.Fmt.{decimal_by_steps}
use Rattle.std.specs.Fmt.{decimal}
use Rattle.std.specs.Prelude.{length}
use borrow.Author.Tests.{lt-ltb, le-ltb}
use Rattle.sheet.specs.Decimal.{digit_at, digits_below, places_from, digit_count, decimal_text}

-- so many digits take so many bytes
pub length_digits : (k n : ℕ) → length (digits_below k n) ≡ k
unfolding digits_below
length_digits zero n = refl
length_digits (suc k) n = ap suc (length_digits k n)

-- a number's digits are those of its tenth part, and the last
digits_up : (k n : ℕ) → digits_below (suc k) n ≡ digits_below k (n / 10) ++ ((48 + n % 10) ∷ [])
unfolding digits_below
digits_up zero n = ap (λ (d : ℕ). d ∷ []) (omega arith)
digits_up (suc k) n = rw (pow-succ' 10 k, ← div-div-eq-div-mul n 10 (10 ^ k)) (ap (λ (l : List ℕ). digit_at (n / 10) k ∷ l) (digits_up k n))

-- the count of places: found at the first try, found later, or one more than the tenth part's
places_here : (t k n : ℕ) → n < 10 ^ k → places_from (suc t) k n ≡ k
unfolding places_from
places_here t k n h = rw (lt-ltb n (10 ^ k) h)

places_later : (t k n : ℕ) → 10 ^ k ≤ n → places_from (suc t) k n ≡ places_from t (k + 1) n
unfolding places_from
places_later t k n h = rw (le-ltb n (10 ^ k) h)

places_up : (t k n : ℕ) → places_from t (k + 1) n ≡ suc (places_from t k (n / 10))
unfolding places_from
places_up zero k n = add-one k
places_up (suc t) k n =
    let e : 10 ^ (k + 1) ≡ 10 ^ k * 10 = rw (add-one, pow-suc) in
    elim (cases_lt n (10 ^ (k + 1))) [
      | inl low ↦ rw (lt-ltb n (10 ^ (k + 1)) low, lt-ltb (n / 10) (10 ^ k) ((div-lt_iff_lt-mul (omega arith)).1 (rw e at low))) (add-one k)
      | inr high ↦ rw (le-ltb n (10 ^ (k + 1)) high, le-ltb (n / 10) (10 ^ k) ((le-div_iff_mul-le (omega arith)).1 (rw e at high))) (places_up t (k + 1) n)
    ]

-- a try more finds no other count where one before it succeeds
places_enough : (t k n : ℕ) → n < 10 ^ (k + t) → places_from (suc t) k n ≡ places_from t k n
unfolding places_from
places_enough zero k n h = let e : k + 0 ≡ k = omega arith in rw (lt-ltb n (10 ^ k) (rw e at h))
places_enough (suc t) k n h = let e : k + suc t ≡ k + 1 + t = omega arith in rw (places_enough t (k + 1) n (rw e at h))

count_up : (n : ℕ) → 10 ≤ n → n < 2 ^ 64 → digit_count n ≡ suc (digit_count (n / 10))
count_up n h k = places_later 18 1 n h ∙ places_up 18 1 n ∙ ap suc (sym (places_enough 18 1 (n / 10) (omega arith)))

text_one : (n : ℕ) → n < 10 → n < 2 ^ 64 → decimal_text n ≡ (48 + n) ∷ []
unfolding decimal_text digits_below
text_one n h _ =
    let e : n % 10 ≡ n = omega arith in
    ap (λ (k : ℕ). digits_below k n) (places_here 18 1 n h) ∙ digits_up 0 n ∙ rw e

text_more : (n : ℕ) (ds : List ℕ) → 10 ≤ n → (n / 10 < 2 ^ 64 → decimal_text (n / 10) ≡ ds) → n < 2 ^ 64 → decimal_text n ≡ ds ++ ((48 + n % 10) ∷ [])
unfolding decimal_text
text_more n ds h r k =
    ap (λ (k : ℕ). digits_below k n) (count_up n h k)
    ∙ digits_up (digit_count (n / 10)) n
    ∙ ap (λ (l : List ℕ). l ++ ((48 + n % 10) ∷ [])) (r (omega arith))

pub decimal_shown : (n : ℕ) → n < 2 ^ 64 → decimal n ≡ decimal_text n
decimal_shown n h = sym (decimal_by_steps (λ n ds. n < 2 ^ 64 → decimal_text n ≡ ds) text_one text_more n h h)
