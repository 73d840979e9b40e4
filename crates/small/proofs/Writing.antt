-- Laws of the writer: its ranges in powers of two, when it refuses, how long a code is. Assumes nothing.
use mathlib.Core.Path.{◌≡◌, refl, sym, ap, ◌∙◌, subst}
use mathlib.Core.List.{[], ◌∷◌}
use Prim.Native.Nat.{ℕ, suc, ◌+◌, ◌-◌, ◌*◌, ◌^◌, ◌≤◌, ◌<◌}
use native.Mathlib.Omega.{arith}
use native.Mathlib.Decide.{dec_le}
use native.Mathlib.Numerals.{add-one}
use lib.Dec.{lit≤}
use lib.ListN.{length}
use lib.Pow.{pow_mono, shr_lt, mod-mod-pow}
use Rattle.base.specs.Bytes.{little_endian}
use Rattle.base.proofs.Test.{by_leb}
use Rattle.base.proofs.BytesLaws.{length_little}
use Rattle.std.specs.Prelude.{Result, Ok, Err}
use Rattle.refusal.specs.declared.Refusal.{Refusal}
use Rattle.refusal.specs.declared.Refusal.TheVariants as R
use Rattle.small.specs.declared.Code.{Code}
use Rattle.small.specs.Small.{head_byte, tail_number, tail_of, code_with, code_of, code_bytes, small_code, long_code}

-- x lies in the range of z, and in none below it
pub record InRange (x z : ℕ) : Type 0 where
  pub zeros : z ≤ 7
  pub above : 0 < z → 2 ^ (7 * z) ≤ x
  pub below : x < 2 ^ (7 * (z + 1))

-- what an answer says of x
abbrev Right : ℕ → Result ℕ Refusal → Type 0
Right x (Ok z) = InRange x z
Right x (Err r) = (r ≡ R.TooLarge) × (2 ^ 56 ≤ x)

pub in_range : (x z : ℕ) → z ≤ 7 → (0 < z → 2 ^ (7 * z) ≤ x) → x < 2 ^ (7 * (z + 1)) → InRange x z
in_range x z a b c = record { zeros = a; above = b; below = c }

tail_right : (x : ℕ) → Right x (tail_of x)
unfolding tail_of
tail_right x =
    by_leb (Right x) x 0x7f _ _ (λ h. in_range x 0 (lit≤ tt) (λ p. omega arith) (omega arith)) (λ g0.
    by_leb (Right x) x 0x3fff _ _ (λ h. in_range x 1 (lit≤ tt) (λ p. g0) (omega arith)) (λ g1.
    by_leb (Right x) x 0x1fffff _ _ (λ h. in_range x 2 (lit≤ tt) (λ p. g1) (omega arith)) (λ g2.
    by_leb (Right x) x 0xfffffff _ _ (λ h. in_range x 3 (lit≤ tt) (λ p. g2) (omega arith)) (λ g3.
    by_leb (Right x) x 0x7ffffffff _ _ (λ h. in_range x 4 (lit≤ tt) (λ p. g3) (omega arith)) (λ g4.
    by_leb (Right x) x 0x3ffffffffff _ _ (λ h. in_range x 5 (lit≤ tt) (λ p. g4) (omega arith)) (λ g5.
    by_leb (Right x) x 0x1ffffffffffff _ _ (λ h. in_range x 6 (lit≤ tt) (λ p. g5) (omega arith)) (λ g6.
    by_leb (Right x) x 0xffffffffffffff _ _ (λ h. in_range x 7 (lit≤ tt) (λ p. g6) (omega arith)) (λ g7. (refl, g7)))))))))

-- a range lies under 2^56
pub under_56 : (x z : ℕ) → InRange x z → x < 2 ^ 56
under_56 x z r = omega (arith, r.below, pow_mono {i = 7 * (z + 1)} {j = 56} (omega (arith, r.zeros)))

-- the ranges do not meet: what is in one takes no more tail bytes than what is below its end
no_more : (x m z : ℕ) → InRange x m → x < 2 ^ (7 * (z + 1)) → m ≤ z
no_more x m z r h =
    elim (dec_le m z) [
      | yes q ↦ q
      | no q ↦ absurd (omega (arith, r.above (omega arith), pow_mono {i = 7 * (z + 1)} {j = 7 * m} (omega arith)))
    ]

-- what was answered is right
pub bytes_right : (x z : ℕ) → tail_of x ≡ Ok z → InRange x z
bytes_right x z e = subst (Right x) e (tail_right x)

refused_right : (x : ℕ) (r : Refusal) → tail_of x ≡ Err r → (r ≡ R.TooLarge) × (2 ^ 56 ≤ x)
refused_right x r e = subst (Right x) e (tail_right x)

-- what is in the range of z takes z tail bytes, and what is in none is refused
pub tail_in : (x z : ℕ) → InRange x z → tail_of x ≡ Ok z
tail_in x z r = go (tail_of x) refl
  where
    go : (t : Result ℕ Refusal) → tail_of x ≡ t → t ≡ Ok z
    go (Ok m) e =
        let q : InRange x m = bytes_right x m e in
        let same : m ≡ z = omega (arith, no_more x m z q r.below, no_more x z m r q.below) in ap Ok same
    go (Err w) e = absurd (omega (arith, (refused_right x w e).1, under_56 x z r))

pub tail_refuses : (x : ℕ) → 2 ^ 56 ≤ x → tail_of x ≡ Err R.TooLarge
tail_refuses x h = go (tail_of x) refl
  where
    go : (t : Result ℕ Refusal) → tail_of x ≡ t → t ≡ Err R.TooLarge
    go (Ok m) e = absurd (omega (arith, under_56 x m (bytes_right x m e)))
    go (Err w) e = ap Err (refused_right x w e).0

-- every number below 2^56 is in a range
pub tail_takes : (x : ℕ) → x < 2 ^ 56 → (z : ℕ) × (tail_of x ≡ Ok z) × InRange x z
tail_takes x h = go (tail_of x) refl
  where
    go : (t : Result ℕ Refusal) → tail_of x ≡ t → (z : ℕ) × (tail_of x ≡ Ok z) × InRange x z
    go (Ok m) e = (m, e, bytes_right x m e)
    go (Err w) e = absurd (omega (arith, (refused_right x w e).1))

-- ---- the code

-- z tail bytes hold the tail
pub tail_lt : (x z : ℕ) → z ≤ 7 → x < 2 ^ (7 * (z + 1)) → tail_number z x < 2 ^ (8 * z)
tail_lt x z h g =
    let e : 7 * (z + 1) ≡ 8 * z + (7 - z) = omega arith in
    let g' : x < 2 ^ (8 * z + (7 - z)) = rw e at g in shr_lt (8 * z) (7 - z) g'

-- the writer refuses exactly from 2^56 on, by 9
pub code_refuses : (x : ℕ) → 2 ^ 56 ≤ x → code_of x ≡ Err R.TooLarge
unfolding code_of
code_refuses x h = ap (code_with x) (tail_refuses x h)

pub code_refused : (x : ℕ) (r : Refusal) → code_of x ≡ Err r → (r ≡ R.TooLarge) × (2 ^ 56 ≤ x)
unfolding code_of
code_refused x r e = go (tail_of x) refl
  where
    go : (t : Result ℕ Refusal) → tail_of x ≡ t → (r ≡ R.TooLarge) × (2 ^ 56 ≤ x)
    go (Ok z) f = absurd (let q : ◌≡◌ {A = ℕ} 0 1 = cc (ap (code_with x) f) in omega arith)
    go (Err w) f = let q : w ≡ r = cc (ap (code_with x) f) in rw (← q) (refused_right x w f)

pub code_none : (x : ℕ) (r : Refusal) → code_of x ≡ Err r → small_code x ≡ []
unfolding small_code
code_none x r e = ap code_bytes e

-- what is known of a code that was given, as one who stores it needs it
pub record Stored (x : ℕ) (c : Code) : Type 0 where
  pub under : x < 2 ^ 56
  pub head_lt : c.head < 256
  pub tail_lt : c.tail < 2 ^ (8 * c.count)
  pub few : c.count ≤ 7
  pub bytes : small_code x ≡ c.head ∷ little_endian c.count c.tail
  pub long : length (small_code x) ≡ c.count + 1

pub code_stored : (x : ℕ) (c : Code) → code_of x ≡ Ok c → Stored x c
unfolding code_of small_code
code_stored x c e = go (tail_of x) refl
  where
    go : (t : Result ℕ Refusal) → tail_of x ≡ t → Stored x c
    go (Ok z) f =
        let r : InRange x z = bytes_right x z f in
        let d : ◌≡◌ {A = Code} (record { head = head_byte z x; tail = tail_number z x; count = z }) c = cc (ap (code_with x) f) in
        rw (← d) (record {
          under = under_56 x z r;
          head_lt = omega arith;
          tail_lt = tail_lt x z r.zeros r.below;
          few = r.zeros;
          bytes = ap (λ t. code_bytes (code_with x t)) f;
          long = ap (λ t. length (code_bytes (code_with x t))) f ∙ ap suc (length_little z (tail_number z x)) ∙ sym (add-one z);
        })
    go (Err w) f = absurd (let q : ◌≡◌ {A = ℕ} 0 1 = cc (ap (code_with x) f) in omega arith)

-- below 2^56 the writer's bytes are the document's for the z of its range
pub small_long : (x : ℕ) → x < 2 ^ 56 → (z : ℕ) × (small_code x ≡ long_code z x) × InRange x z
unfolding code_of small_code long_code
small_long x h = let (z, e, r) = tail_takes x h in (z, ap (λ (t : Result ℕ Refusal). code_bytes (code_with x t)) e, r)

-- ---- how long a code is

pub length_long : (z x : ℕ) → length (long_code z x) ≡ z + 1
unfolding long_code
length_long z x = ap suc (length_little z (tail_number z x)) ∙ sym (add-one z)

-- below 2^(7n) at most n bytes, from 2^(7n) on more
pub length_upto : (x n : ℕ) → 1 ≤ n → n ≤ 8 → x < 2 ^ (7 * n) → length (small_code x) ≤ n
length_upto x n some few h =
    let (z, e, r) = small_long x (omega (arith, pow_mono {i = 7 * n} {j = 56} (omega arith))) in
    let m : n - 1 + 1 ≡ n = omega arith in
    rw (e, length_long z x) (omega (arith, no_more x z (n - 1) r (rw m h)))

pub length_over : (x n : ℕ) → x < 2 ^ 56 → 2 ^ (7 * n) ≤ x → n < length (small_code x)
length_over x n h g =
    let (z, e, r) = small_long x h in
    rw (e, length_long z x)
    (elim (dec_le n z) [
      | yes q ↦ omega arith
      | no q ↦ absurd (omega (arith, r.below, pow_mono {i = 7 * (z + 1)} {j = 7 * n} (omega arith)))
    ])

-- a code is never empty, and eight bytes hold it
pub length_some : (x : ℕ) → x < 2 ^ 56 → 1 ≤ length (small_code x)
length_some x h = let (z, e, r) = small_long x h in rw (e, length_long z x) (omega arith)

pub length_few : (x : ℕ) → x < 2 ^ 56 → length (small_code x) ≤ 8
length_few x h = length_upto x 8 (lit≤ tt) (lit≤ tt) h

-- a code's tail takes at most seven bytes, and its number is below 2^56
pub tail_few : (x z : ℕ) → Ok z ≡ tail_of x → z ≤ 7
tail_few x z e = (bytes_right x z (sym e)).zeros

pub tail_within : (x z : ℕ) → Ok z ≡ tail_of x → x < 2 ^ 56
tail_within x z e = under_56 x z (bytes_right x z (sym e))

-- what `write_small` cites, in one name
pub ruleset code_rules = (tail_within, tail_few, mod-mod-pow)
