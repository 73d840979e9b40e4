-- Laws of cells one after another: looked through part by part, and drawn part by part and byte by byte. Assumes nothing.
use mathlib.Core.Path.{◌≡◌, refl, sym, ap, ap₂, ◌∙◌}
use mathlib.Core.Bool.{Bool, true, false, cond, ◌||◌, or_assoc}
use mathlib.Core.List.{List, [], ◌∷◌, ◌++◌, map, map-append, append_assoc, append-nil}
use Prim.Native.Nat.{ℕ, zero, suc, ◌*◌, ◌/◌, ◌+◌, ◌-◌, ◌≤◌, ◌<◌, min}
use native.Mathlib.Nat.{min-eq_left, min-eq_right, le_of_lt}
use native.Mathlib.Numerals.{add-one}
use native.Mathlib.Omega.{arith}
use lib.Dec.{leb, eqb}
use lib.ListN.{length, get_or, take, drop, set, take-append-drop, drop_of_length-le}
use lib.ListN as L
use lib.Seq.{take-suc, drop-cons, append_snoc, set_at, length-take-le, take_at, drop_at, take_all, take-add, drop-drop}
use mir.Val.{bool_byte}
use borrow.Author.Tests.{le-leb, lt-leb, leb-true, leb-false, eq-eqb, ne_eqb}
use Rattle.std.specs.List.{list_any}
use Rattle.std.specs.Simd.{first_chunks}
use Rattle.base.proofs.Test.{cases, cond_yes, cond_no}
use Rattle.image.specs.declared.Reading.TheVariants as R
use Rattle.image.specs.Cell.{Cell, true_code, given_up_code, meaning_of, meanings, reading, byte_of, shown_byte}
use Rattle.image.specs.Painting.{some_of, drawn_bytes}
use Rattle.image.proofs.CellLaws.{by_code}
use Rattle.image.proofs.CountLaws.{some_append}

-- PART BY PART

some_front : (test : Cell → Bool) (l : List ℕ) → some_of test (meanings l) ≡ (some_of test (meanings (take 16 l)) || some_of test (meanings (drop 16 l)))
some_front test l =
    ap (λ (m : List ℕ). some_of test (meanings m)) (sym (take-append-drop 16 l))
    ∙ ap (some_of test) (map-append meaning_of (take 16 l) (drop 16 l))
    ∙ some_append test (meanings (take 16 l)) (meanings (drop 16 l))

-- k parts of sixteen, and the rest
parts_some : (test : Cell → Bool) (k : ℕ) (l : List ℕ)
    → (list_any (λ m. some_of test (meanings m)) (first_chunks 16 k l) || some_of test (meanings (drop (k * 16) l))) ≡ some_of test (meanings l)
parts_some test zero l = refl
parts_some test (suc k) l =
    let e : suc k * 16 ≡ 16 + k * 16 = omega arith in
    let front = some_of test (meanings (take 16 l)) in
    let parts = list_any (λ (m : List ℕ). some_of test (meanings m)) (first_chunks 16 k (drop 16 l)) in
    rw e (
    or_assoc front parts (some_of test (meanings (drop (16 + k * 16) l)))
    ∙ ap (λ (b : Bool). front || b)
    (ap (λ (m : List ℕ). parts || some_of test (meanings m)) (sym (drop-drop (k * 16) 16 l)) ∙ parts_some test k (drop 16 l))
    ∙ sym (some_front test l)
    )

pub stretch_some : (test : Cell → Bool) (l rest : List ℕ) (parts : List (List ℕ)) (b : Bool) → b ≡ list_any (λ m. some_of test (meanings m)) parts
    → parts ≡ first_chunks 16 (length l / 16) l → rest ≡ drop (length l / 16 * 16) l
    → (b || some_of test (meanings rest)) ≡ some_of test (meanings l)
stretch_some test l rest parts b e f g = rw (e, f, g) (parts_some test (length l / 16) l)

-- THE BYTE OF A CELL

pub byte_sum : (taken n : ℕ) → taken ≤ true_code → bool_byte (leb taken n) + bool_byte (eqb n true_code) ≡ shown_byte taken n
unfolding reading
byte_sum taken n h =
    by_code (λ n c. bool_byte (leb taken n) + bool_byte (eqb n true_code) ≡ byte_of (reading taken c))
    (λ n k. rw (ne_eqb n true_code (λ e. omega arith)) (go (leb taken n)))
    (rw (le-leb taken true_code h))
    (rw (le-leb taken given_up_code (omega arith)))
    (λ n k. rw (le-leb taken n (omega arith), ne_eqb n true_code (λ e. omega arith)))
    n
  where
    go : (b : Bool) → bool_byte b + 0 ≡ byte_of (cond b R.Uncertain R.False)
    go true = refl
    go false = refl

pub byte_small : (b c : Bool) → bool_byte b + bool_byte c < 256
byte_small true true = omega arith
byte_small true false = omega arith
byte_small false true = omega arith
byte_small false false = omega arith

-- from the code of True on, more that are taken change nothing
pub shown_least : (taken n : ℕ) → shown_byte (min taken true_code) n ≡ shown_byte taken n
unfolding reading
shown_least taken n =
    by_code (λ n c. byte_of (reading (min taken true_code) c) ≡ byte_of (reading taken c))
    (λ n k.
    cases (leb taken true_code)
    (λ e. ap (λ (t : ℕ). byte_of (cond (leb t n) R.Uncertain R.False)) (min-eq_left (leb-true taken true_code e)))
    (λ e.
    (let h : true_code < taken = leb-false taken true_code e in
    rw (min-eq_right (le_of_lt h), lt-leb true_code n k, lt-leb taken n (omega arith)))))
    refl refl (λ n k. refl) n

-- BYTE BY BYTE

-- the buffer once the first i bytes are written
unfoldable pub drawn_to : ℕ → ℕ → List ℕ → List ℕ → List ℕ
drawn_to taken i cells out = map (shown_byte taken) (take i cells) ++ drop i out

pub draw_start : (taken : ℕ) (cells out : List ℕ) → out ≡ drawn_to taken 0 cells out
unfolding drawn_to
draw_start taken [] out = refl
draw_start taken (n ∷ cells) out = refl

pub draw_pass : (taken i v : ℕ) (cells out now : List ℕ) → i < length cells → i < length out → now ≡ drawn_to taken i cells out
    → v ≡ shown_byte taken (get_or cells i 0)
    → set now i v ≡ drawn_to taken (i + 1) cells out
unfolding drawn_to
draw_pass taken i v cells out now h k e f =
    let front = map (shown_byte taken) (take i cells) in
    let n : length front ≡ i = L.length-map (take i cells) (shown_byte taken) ∙ length-take-le i cells (omega arith) in
    ap (λ (l : List ℕ). set l i v) (e ∙ ap (λ (l : List ℕ). front ++ l) (drop-cons out i 0 k))
    ∙ set_at front (get_or out i 0) (drop (suc i) out) v i n
    ∙ sym (append_snoc front v (drop (suc i) out))
    ∙ ap (λ (l : List ℕ). l ++ drop (suc i) out)
    (ap (λ (b : ℕ). front ++ (b ∷ [])) f ∙ sym (map-append (shown_byte taken) (take i cells) (get_or cells i 0 ∷ [])) ∙ sym (ap (map (shown_byte taken)) (take-suc cells i 0 h)))
    ∙ rw add-one

-- a part is written where it stands
pub draw_part : (taken start end : ℕ) (cells out now ys : List ℕ) → start ≤ end → end ≤ length cells → now ≡ drawn_to taken start cells out
    → ys ≡ map (shown_byte taken) (take (end - start) (drop start cells))
    → take start now ++ (ys ++ drop (end - start) (drop start now)) ≡ drawn_to taken end cells out
unfolding drawn_to
draw_part taken start end cells out now ys h k e y =
    let f = shown_byte taken in
    let front = map f (take start cells) in
    let n : length front ≡ start = L.length-map (take start cells) f ∙ length-take-le start cells (omega arith) in
    let w : start + (end - start) ≡ end = omega arith in
    ap (λ (m : List ℕ). take start m ++ (ys ++ drop (end - start) (drop start m))) e
    ∙ ap₂ (λ (a b : List ℕ). a ++ (ys ++ drop (end - start) b)) (take_at front (drop start out) start n) (drop_at front (drop start out) start n)
    ∙ ap₂ (λ (a b : List ℕ). front ++ (a ++ b)) y (drop-drop (end - start) start out ∙ ap (λ (m : ℕ). drop m out) w)
    ∙ sym (append_assoc front (map f (take (end - start) (drop start cells))) (drop end out))
    ∙ ap (λ (m : List ℕ). m ++ drop end out)
    (sym (map-append f (take start cells) (take (end - start) (drop start cells)))
    ∙ ap (map f) (sym (take-add start (end - start) cells) ∙ ap (λ (m : ℕ). take m cells) w))

pub draw_end : (taken i : ℕ) (cells out : List ℕ) → i ≡ length cells → length cells ≡ length out → drawn_to taken i cells out ≡ map (shown_byte taken) cells
unfolding drawn_to
draw_end taken i cells out e f =
    ap₂ (λ (a b : List ℕ). map (shown_byte taken) a ++ b) (take_all i cells (omega arith)) (drop_of_length-le out {i = i} (omega arith)) ∙ append-nil (map (shown_byte taken) cells)

-- THE BUFFER

shown_map : (taken : ℕ) (l : List ℕ) → map (shown_byte (min taken true_code)) l ≡ map (shown_byte taken) l
shown_map taken [] = refl
shown_map taken (n ∷ l) = ap₂ ◌∷◌ (shown_least taken n) (shown_map taken l)

pub drawn_all : (taken : ℕ) (cells out : List ℕ) → length cells ≡ length out → drawn_bytes taken cells out ≡ map (shown_byte taken) cells
unfolding drawn_bytes
drawn_all taken cells out e = cond_yes (eqb (length cells) (length out)) (map (shown_byte taken) cells) out (eq-eqb (length cells) (length out) e)

pub drawn_done : (taken least : ℕ) (cells out now : List ℕ) → length cells ≡ length out → least ≡ min taken true_code → now ≡ map (shown_byte least) cells
    → now ≡ drawn_bytes taken cells out
drawn_done taken least cells out now t e f = f ∙ ap (λ (m : ℕ). map (shown_byte m) cells) e ∙ shown_map taken cells ∙ sym (drawn_all taken cells out t)

pub drawn_not : (taken : ℕ) (cells out : List ℕ) → eqb (length cells) (length out) ≡ false → out ≡ drawn_bytes taken cells out
unfolding drawn_bytes
drawn_not taken cells out t = sym (cond_no (eqb (length cells) (length out)) (map (shown_byte taken) cells) out t)
