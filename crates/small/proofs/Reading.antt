-- Laws of the reader: its answer by its tests, that it reads what was written, and how far it looks. Assumes nothing.
-- Its bytes are numbers below 256 where a law needs that: a slice's bytes always are.
use mathlib.Core.Path.{◌≡◌, refl, sym, ap, ◌∙◌, subst}
use mathlib.Core.List.{List, [], ◌∷◌, ◌++◌}
use Prim.Native.Nat.{ℕ, suc, ◌+◌, ◌-◌, ◌*◌, ◌/◌, ◌%◌, ◌^◌, ◌≤◌, ◌<◌}
use native.Mathlib.Omega.{arith}
use native.Mathlib.Decide.{dec_le}
use lib.Arith.{digits_lt}
use lib.Count.{count_trailing_zeros}
use lib.Dec.{ltb, eqb}
use lib.ListN.{length, get_or, take, drop, length-append, take-append-drop}
use lib.Pow.{pow-add, pow_mono, shr_lt, shl_exact, split}
use lib.Seq.{take_at, take_all, take-append-le, length-take-le, get_or-take}
use borrow.Author.Tests.{eqb-true, eqb-false, eq-eqb, ne_eqb, lt-ltb, le-ltb}
use Rattle.base.specs.Bytes.{little_endian, of_little_endian}
use Rattle.base.proofs.Test.{by_test, by_ltb, cond_yes, cond_no}
use Rattle.base.proofs.BytesLaws.{length_little, little_round}
use Rattle.std.specs.Prelude.{Result, Ok, Err}
use Rattle.refusal.specs.declared.Refusal.{Refusal}
use Rattle.refusal.specs.declared.Refusal.TheVariants as R
use Rattle.small.specs.declared.Number.{Number}
use Rattle.small.specs.Small.{head_byte, tail_number, small_code, long_code, read_behind, read_small}
use Rattle.small.proofs.Zeros.{zeros_lt, head_zeros, head_some, head_bits}
use Rattle.small.proofs.TailLaws.{taken_lt}
use Rattle.small.proofs.Writing.{tail_lt, small_long, length_long}

-- every number of the list is a byte
abbrev pub AreBytes : List ℕ → Type 0
AreBytes s = (i : ℕ) → get_or s i 0 < 256

-- ---- the answer by its tests

-- the z that the head shows, and the number of a whole code
abbrev pub zeros_of : List ℕ → ℕ
zeros_of s = count_trailing_zeros 8 (get_or s 0 0)

abbrev pub value_of : List ℕ → ℕ
value_of s = get_or s 0 0 / 2 ^ (zeros_of s + 1) + of_little_endian (take (zeros_of s) (drop 1 s)) * 2 ^ (7 - zeros_of s)

-- what holds of each answer, under the tests that lead to it, holds of the answer
pub by_read : (P : Result Number Refusal → Type 0) (s : List ℕ)
    → (length s ≡ 0 → P (Err R.EndsEarly))
    → ((length s ≡ 0 → ⊥) → get_or s 0 0 ≡ 0 → P (Err R.HeadZero))
    → ((get_or s 0 0 ≡ 0 → ⊥) → length s < zeros_of s + 1 → P (Err R.EndsEarly))
    → ((get_or s 0 0 ≡ 0 → ⊥) → zeros_of s + 1 ≤ length s → P (Ok (record { x = value_of s; count = zeros_of s + 1 })))
    → P (read_small s)
unfolding read_small read_behind
by_read P [] none null short whole = none refl
by_read P (b ∷ l) none null short whole =
    by_test P (eqb b 0) _ _ (λ t. null (λ e. omega arith) (eqb-true b 0 t))
    (λ t. by_ltb P (length l) (count_trailing_zeros 8 b) _ _ (λ h. short (eqb-false b 0 t) (omega arith)) (λ h. whole (eqb-false b 0 t) (omega arith)))

pub read_none : (s : List ℕ) → length s ≡ 0 → read_small s ≡ Err R.EndsEarly
unfolding read_small
read_none [] h = refl
read_none (b ∷ l) h = absurd (omega arith)

-- a head of 0 is refused whatever follows
pub read_zero : (s : List ℕ) → (length s ≡ 0 → ⊥) → get_or s 0 0 ≡ 0 → read_small s ≡ Err R.HeadZero
unfolding read_small
read_zero [] p h = absurd (p refl)
read_zero (b ∷ l) p h = cond_yes (eqb b 0) _ _ (eq-eqb b 0 h)

pub read_whole : (s : List ℕ) → (get_or s 0 0 ≡ 0 → ⊥) → zeros_of s + 1 ≤ length s → read_small s ≡ Ok (record { x = value_of s; count = zeros_of s + 1 })
unfolding read_small read_behind
read_whole [] p h = absurd (p refl)
read_whole (b ∷ l) p h =
    cond_no (eqb b 0) _ _ (ne_eqb b 0 p)
    ∙ cond_no (ltb (length l) (count_trailing_zeros 8 b)) _ _ (le-ltb (length l) (count_trailing_zeros 8 b) (omega arith))

-- ---- what an answer tells of the bytes

-- a number stands whole at the front
pub record Whole (s : List ℕ) (n : Number) : Type 0 where
  pub head : get_or s 0 0 ≡ 0 → ⊥
  pub inside : n.count ≤ length s
  pub zeros : n.count ≡ zeros_of s + 1
  pub value : n.x ≡ value_of s

no_number : {A : Type 0} (r : Refusal) (n : Number) → ◌≡◌ {A = Result Number Refusal} (Err r) (Ok n) → A
no_number r n e = absurd (let z : ◌≡◌ {A = ℕ} 0 1 = cc in omega arith)

pub number_whole : (s : List ℕ) (n : Number) → read_small s ≡ Ok n → Whole s n
number_whole s n =
    by_read (λ (r : Result Number Refusal). r ≡ Ok n → Whole s n) s
    (λ h e. no_number _ n e)
    (λ h g e. no_number _ n e)
    (λ h g e. no_number _ n e)
    (λ h g e.
    let d : ◌≡◌ {A = Number} (record { x = value_of s; count = zeros_of s + 1 }) n = cc in
    rw (← d) (record { head = h; inside = omega arith; zeros = refl; value = refl }))

-- a head that is a byte and not 0 shows at most 7
pub zeros_few : (s : List ℕ) → (get_or s 0 0 ≡ 0 → ⊥) → get_or s 0 0 < 256 → zeros_of s ≤ 7
zeros_few s p h = omega (arith, zeros_lt 8 (get_or s 0 0) p h)

-- a number's code takes one to eight bytes, and they are there
pub read_inside : (s : List ℕ) (n : Number) → read_small s ≡ Ok n → n.count ≤ length s
read_inside s n e = (number_whole s n e).inside

pub read_some : (s : List ℕ) (n : Number) → read_small s ≡ Ok n → 1 ≤ n.count
read_some s n e = omega (arith, (number_whole s n e).zeros)

pub read_few : (s : List ℕ) (n : Number) → read_small s ≡ Ok n → get_or s 0 0 < 256 → n.count ≤ 8
read_few s n e h = let w : Whole s n = number_whole s n e in omega (arith, w.zeros, zeros_few s w.head h)

-- eight bytes are enough for any code
pub read_ends : (s : List ℕ) → read_small s ≡ Err R.EndsEarly → get_or s 0 0 < 256 → length s < 8
read_ends s =
    by_read (λ (r : Result Number Refusal). r ≡ Err R.EndsEarly → get_or s 0 0 < 256 → length s < 8) s
    (λ h e b. omega arith)
    (λ h g e b. absurd (let z : ◌≡◌ {A = ℕ} 0 1 = cc in omega arith))
    (λ h g e b. omega (arith, zeros_few s h b))
    (λ h g e b. no_number _ _ (sym e))

-- more bytes behind change no number
pub read_more : (s rest : List ℕ) (n : Number) → read_small s ≡ Ok n → read_small (s ++ rest) ≡ Ok n
read_more s rest n e = go s (number_whole s n e)
  where
    go : (s : List ℕ) → Whole s n → read_small (s ++ rest) ≡ Ok n
    go [] w = absurd (w.head refl)
    go (b ∷ l) w =
        let k : ℕ = count_trailing_zeros 8 b in
        let fits : k ≤ length l = omega (arith, w.zeros, w.inside) in
        read_whole (b ∷ (l ++ rest)) w.head (simp length-append (omega arith))
        ∙ rw (take-append-le k l rest fits, w.zeros, w.value)

-- nor do bytes past the eighth
pub read_first : (k : ℕ) (s : List ℕ) → 8 ≤ k → get_or s 0 0 < 256 → read_small (take k s) ≡ read_small s
read_first k s h b =
    elim (dec_le (length s) k) [
      | yes q ↦ ap read_small (take_all k s q)
      | no q ↦ long (omega arith)
    ]
  where
    t : List ℕ
    t = take k s

    long : k < length s → read_small t ≡ read_small s
    long q =
        let full : length t ≡ k = length-take-le k s (omega arith) in
        let head : get_or t 0 0 ≡ get_or s 0 0 = get_or-take k s 0 0 (omega arith) in
        let whole : t ++ drop k s ≡ s = take-append-drop k s in
        by_read (λ (r : Result Number Refusal). read_small t ≡ r → r ≡ read_small s) t
        (λ g e. absurd (omega arith))
        (λ g z e. sym (read_zero s (λ y. omega arith) (sym head ∙ z)))
        (λ g z e. absurd (omega (arith, zeros_few t g (rw head b))))
        (λ g z e. sym (read_more t (drop k s) _ e) ∙ ap read_small whole)
        refl

-- ---- the number

behind : (s : List ℕ) → AreBytes s → AreBytes (drop 1 s)
behind [] h i = h 0
behind (b ∷ l) h i = h (suc i)

-- a code of n bytes holds less than 2^(7n)
pub value_lt : (s : List ℕ) → (get_or s 0 0 ≡ 0 → ⊥) → AreBytes s → value_of s < 2 ^ (7 * (zeros_of s + 1))
value_lt s p h =
    let z : ℕ = zeros_of s in
    let few : z ≤ 7 = zeros_few s p (h 0) in
    let e : 8 ≡ (7 - z) + (z + 1) = omega arith in
    let f : 7 * (z + 1) ≡ 8 * z + (7 - z) = omega arith in
    let b : get_or s 0 0 < 2 ^ ((7 - z) + (z + 1)) = subst (λ (k : ℕ). get_or s 0 0 < 2 ^ k) e (h 0) in
    let low : get_or s 0 0 / 2 ^ (z + 1) < 2 ^ (7 - z) = shr_lt (7 - z) (z + 1) b in
    let high : of_little_endian (take z (drop 1 s)) < 2 ^ (8 * z) = taken_lt z (drop 1 s) (behind s h) in
    rw (f, pow-add 2 (8 * z) (7 - z)) (omega (arith, digits_lt high low))

pub value_fits : (s : List ℕ) → (get_or s 0 0 ≡ 0 → ⊥) → AreBytes s → value_of s < 2 ^ 56
value_fits s p h =
    omega (arith, value_lt s p h, pow_mono {i = 7 * (zeros_of s + 1)} {j = 56} (omega (arith, zeros_few s p (h 0))))

-- the number as a word is put together, of a head h and the tail t behind it: the tail's shift loses nothing
module _ (s rest : List ℕ) (head h t : ℕ) (e : head ∷ rest ≡ s) (p : head ≡ 0 → ⊥) (bytes : AreBytes s) (f : h ≡ head)
    (g : t ≡ of_little_endian (take (count_trailing_zeros 8 head) rest)) where
  word_value : h / 2 ^ (count_trailing_zeros 8 head + 1) + t * 2 ^ (7 - count_trailing_zeros 8 head) % 2 ^ 64 ≡ value_of s
  word_value =
      let z : ℕ = count_trailing_zeros 8 head in
      let b : AreBytes (head ∷ rest) = subst AreBytes (sym e) bytes in
      let few : z ≤ 7 = zeros_few (head ∷ rest) p (b 0) in
      rw (← e, f, g, shl_exact {a = of_little_endian (take z rest)} (8 * z) (7 - z) 64 (taken_lt z rest (λ i. b (suc i))) (omega arith))

  pub word_fits : h / 2 ^ (count_trailing_zeros 8 head + 1) + t * 2 ^ (7 - count_trailing_zeros 8 head) % 2 ^ 64 < 2 ^ 64
  word_fits = omega (arith, word_value, value_fits s (subst (λ (k : List ℕ). get_or k 0 0 ≡ 0 → ⊥) e p) bytes)

  pub word_read : count_trailing_zeros 8 head ≤ length rest
      → Ok (record {
        x = h / 2 ^ (count_trailing_zeros 8 head + 1) + t * 2 ^ (7 - count_trailing_zeros 8 head) % 2 ^ 64;
        count = count_trailing_zeros 8 head + 1;
      }) ≡ read_small s
  word_read inside =
      ap (λ (v : ℕ). Ok (record { x = v; count = count_trailing_zeros 8 head + 1 })) word_value
      ∙ sym (rw (← e) (read_whole (head ∷ rest) p (omega arith)))

-- a number that was read is below 2^(7n), n the bytes of its code, and so below 2^56
pub read_under : (s : List ℕ) (n : Number) → read_small s ≡ Ok n → AreBytes s → n.x < 2 ^ (7 * n.count)
read_under s n e h = let w : Whole s n = number_whole s n e in rw (w.value, w.zeros) (value_lt s w.head h)

pub read_under_56 : (s : List ℕ) (n : Number) → read_small s ≡ Ok n → AreBytes s → n.x < 2 ^ 56
read_under_56 s n e h = let w : Whole s n = number_whole s n e in rw w.value (value_fits s w.head h)

-- ---- what was written is read

-- the head and the tail of x hold x
long_value : (z x : ℕ) (rest : List ℕ) → z ≤ 7 → x < 2 ^ (7 * (z + 1))
    → head_byte z x / 2 ^ (z + 1) + of_little_endian (take z (little_endian z (tail_number z x) ++ rest)) * 2 ^ (7 - z) ≡ x
long_value z x rest few lt =
    let tail : ℕ = tail_number z x in
    rw (head_bits z x few, take_at (little_endian z tail) rest z (length_little z tail), little_round z tail (tail_lt x z few lt))
    (omega (arith, split x (7 - z)))

-- in z tail bytes, where fewer might do, whatever follows
pub read_long : (z x : ℕ) (rest : List ℕ) → z ≤ 7 → x < 2 ^ (7 * (z + 1)) → read_small (long_code z x ++ rest) ≡ Ok (record { x = x; count = z + 1 })
unfolding long_code
read_long z x rest few lt =
    let l : List ℕ = little_endian z (tail_number z x) ++ rest in
    let zs : count_trailing_zeros 8 (head_byte z x) ≡ z = head_zeros z x few in
    let long : z ≤ length l = simp (length-append, length_little) (omega arith) in
    read_whole (head_byte z x ∷ l) (head_some z x few) (rw zs (omega arith)) ∙ rw (zs, long_value z x rest few lt)

-- as it was written, whatever follows
pub read_written : (x : ℕ) (rest : List ℕ) → x < 2 ^ 56 → read_small (small_code x ++ rest) ≡ Ok (record { x = x; count = length (small_code x) })
read_written x rest h =
    let (z, e, r) = small_long x h in
    rw (e, length_long z x) (read_long z x rest r.zeros r.below)
