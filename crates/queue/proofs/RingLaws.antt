-- Laws of the ring: its parts, what it holds after bytes were stored behind or passed over, and which bytes stay.
-- Assumes nothing.
use Rattle.std.specs.Prelude.{Some, slice_get}
use Rattle.std.proofs.lemmas.Option.{slice_get-get_or, slice_get_past}
use Rattle.std.proofs.lemmas.List.{take-append-drop}
use mathlib.Core.Path.{◌≡◌, refl, sym, ap, ◌∙◌}
use mathlib.Core.Bool.{cond}
use mathlib.Core.List.{List, [], ◌∷◌, ◌++◌, append_assoc, append-nil}
use Prim.Native.Nat.{ℕ, zero, suc, ◌+◌, ◌-◌, ◌≤◌, ◌<◌}
use native.Mathlib.Omega.{arith}
use native.Mathlib.Nat.{add-zero, add_assoc, sub-zero, add_comm, min-eq_left, min-eq_right}
use native.Mathlib.Decide.{ℕ_discrete, dec_lt}
use native.Mathlib.Numerals.{add-one}
use lib.Dec.{eqb}
use lib.ListN.{length, get_or, take, drop, set, length-drop, length-take, length-set, length-append, drop_of_length-le}
use lib.ListN.{get_or-append}
use lib.Seq.{sets, length-sets, take_all, drop-cons, get_or-drop, get_or-append-add, drop-set-add, drop-append-le, drop-append-add}
use lib.Seq.{take-append-le, take-nil, drop-drop, drop-set-lt, take-suc-set, drop-length, get_or-set_other}
use borrow.Author.Tests.{lt-ltb, le-ltb, eq-eqb, ne_eqb}
use Rattle.base.proofs.Test.{by_ltb}
use Rattle.queue.specs.Ring.{older_stretch, newer_stretch, content, stored, wrapped}
use Rattle.queue.specs.Ring.{part_of, behind, part_place}
use Rattle.queue.specs.Ring.{stored_behind}

-- a part to the end
pub rest_all : (l : List ℕ) (a : ℕ) → take (length l - a) (drop a l) ≡ drop a l
rest_all l a = take_all (length l - a) (drop a l) (simp length-drop (omega arith))

pub part_older : (o n : List ℕ) (at : ℕ) → at < length o → take (length o - at) (drop at o) ≡ part_of o n at
unfolding part_of
part_older o n at h = rw (lt-ltb at (length o) h) (rest_all o at)

pub part_newer : (o n : List ℕ) (at : ℕ) → length o ≤ at
    → take (length n - (at - length o)) (drop (at - length o) n) ≡ part_of o n at
unfolding part_of
part_newer o n at h = rw (le-ltb at (length o) h) (rest_all n (at - length o))

pub part_end : (o n : List ℕ) (at : ℕ) → length o ≤ at → length n ≤ at - length o
    → take (length n - length n) (drop (length n) n) ≡ part_of o n at
unfolding part_of
part_end o n at h k = rw (le-ltb at (length o) h) (rest_all n (length n) ∙ drop-length n ∙ sym (drop_of_length-le n k))

-- where a part of a slice lies, and where the three parts do
pub behind_at : (p : ℕ × ℕ) (count : ℕ) → (p.0, count + p.1) ≡ behind p count
behind_at p count = ap (λ (k : ℕ). (p.0, k)) (add_comm count p.1)

module _ (o n : ℕ × ℕ) (lo ln at : ℕ) where
  pub place_older : at < lo → (o.0, at + o.1) ≡ part_place o lo n ln at
  unfolding part_place
  place_older h = rw (lt-ltb at lo h) (behind_at o at)

  pub place_newer : lo ≤ at → at - lo < ln → (n.0, at - lo + n.1) ≡ part_place o lo n ln at
  unfolding part_place
  place_newer h k = rw (le-ltb at lo h, min-eq_left {n = at - lo} {m = ln} (omega arith)) (behind_at n (at - lo))

  pub place_end : lo ≤ at → ln ≤ at - lo → (n.0, ln + n.1) ≡ part_place o lo n ln at
  unfolding part_place
  place_end h k = rw (le-ltb at lo h, min-eq_right {n = ln} {m = at - lo} k) (behind_at n ln)

-- past both, a part is empty
part_empty : (o n : List ℕ) (at : ℕ) → length o + length n ≤ at → length (part_of o n at) ≡ 0
unfolding part_of
part_empty o n at h = rw (le-ltb at (length o) (omega arith)) (simp length-drop (omega arith))

-- the first byte of a part is the byte of both stretches at that offset
pub part_head : (o n : List ℕ) (at : ℕ) → at < length o + length n
    → (0 < length (part_of o n at)) × (get_or (part_of o n at) 0 0 ≡ get_or (o ++ n) at 0)
unfolding part_of
part_head o n at h =
    by_ltb (λ (l : List ℕ). (0 < length l) × (get_or l 0 0 ≡ get_or (o ++ n) at 0)) at (length o) (drop at o)
    (drop (at - length o) n)
    (λ k. (
      simp length-drop (omega arith),
      get_or-drop at o 0 0 ∙ ap (λ (j : ℕ). get_or o j 0) (add-zero at) ∙ sym (get_or-append o n 0 at k),
    ))
    (λ k. let e : length o + (at - length o) ≡ at = omega arith in (
      simp length-drop (omega arith),
      get_or-drop (at - length o) n 0 0 ∙ ap (λ (j : ℕ). get_or n j 0) (add-zero (at - length o))
          ∙ sym (get_or-append-add o n (at - length o) 0) ∙ ap (λ (j : ℕ). get_or (o ++ n) j 0) e,
    ))

-- and so it is where both end
pub part_first : (o n : List ℕ) (at : ℕ) → slice_get (part_of o n at) 0 ≡ slice_get (o ++ n) at
part_first o n at =
    elim (dec_lt at (length o + length n)) [
      | yes h ↦
          let (some, e) = part_head o n at h in
          slice_get-get_or (part_of o n at) 0 0 some ∙ ap Some e
          ∙ sym (slice_get-get_or (o ++ n) at 0 (simp length-append h))
      | no h ↦
          slice_get_past (part_of o n at) 0 (omega (arith, part_empty o n at (omega arith)))
          ∙ sym (slice_get_past (o ++ n) at (simp length-append (omega arith)))
    ]

-- what lies at an offset of both stretches is the part there, with more behind it where the part lies in the older stretch
pub part_front : (o n : List ℕ) (at : ℕ) → (rest : List ℕ) × (drop at (o ++ n) ≡ part_of o n at ++ rest)
unfolding part_of
part_front o n at =
    by_ltb (λ (l : List ℕ). (rest : List ℕ) × (drop at (o ++ n) ≡ l ++ rest)) at (length o) (drop at o)
    (drop (at - length o) n)
    (λ k. (n, drop-append-le at o n (omega arith)))
    (λ k.
    let e : at ≡ length o + (at - length o) = omega arith in (
      [],
      ap (λ (j : ℕ). drop j (o ++ n)) e ∙ drop-append-add o n (at - length o)
          ∙ sym (append-nil (drop (at - length o) n)),
    ))

-- the stretches have as many bytes as are used
pub stretches_length : (ring : List ℕ) (head used : ℕ) → head ≤ length ring → used ≤ length ring
    → length (older_stretch ring head used) + length (newer_stretch ring head used) ≡ used
unfolding older_stretch newer_stretch
stretches_length ring head used h k = simp (length-take, length-drop) (omega arith)

-- what a ring holds, from its stretches
pub content_of : {o n : List ℕ} (ring : List ℕ) (head used : ℕ) → o ≡ older_stretch ring head used → n ≡ newer_stretch ring head used
    → o ++ n ≡ content ring head used
unfolding content
content_of ring head used p q = rw (p, q)

pub content_length : (ring : List ℕ) (head used : ℕ) → head ≤ length ring → used ≤ length ring
    → length (content ring head used) ≡ used
unfolding content
content_length ring head used h k =
    length-append (older_stretch ring head used) (newer_stretch ring head used) ∙ stretches_length ring head used h k

-- the position after another
abbrev pub next : ℕ → ℕ → ℕ
next n p = cond (eqb (p + 1) n) 0 (p + 1)

pub next_end : (n p : ℕ) → p + 1 ≡ n → next n p ≡ 0
next_end n p h = rw (eq-eqb (p + 1) n h)

pub next_on : (n p : ℕ) → (p + 1 ≡ n → ⊥) → next n p ≡ p + 1
next_on n p h = rw (ne_eqb (p + 1) n h)

pub length_stored : (bs ring : List ℕ) (p : ℕ) → length (stored ring p bs) ≡ length ring
unfolding stored
length_stored [] ring p = refl
length_stored (b ∷ bs) ring p = length_stored bs (set ring p b) (next (length ring) p) ∙ length-set ring p b

-- one byte stored of those that are left
pub straight_step : (ring source : List ℕ) (p i count : ℕ) → i < count → count ≤ length source
    → sets (set ring p (get_or source i 0)) (p + 1) (take (count - (i + 1)) (drop (i + 1) source))
    ≡ sets ring p (take (count - i) (drop i source))
straight_step ring source p i count h k =
    let e : count - i ≡ suc (count - (i + 1)) = omega arith in
    let inside : i < length source = omega arith in
    rw (drop-cons source i 0 inside, e, add-one i, add-one p)

-- bytes that do not reach the end are stored in a row
pub stored_straight : (bs ring : List ℕ) (p : ℕ) → p + length bs ≤ length ring → stored ring p bs ≡ sets ring p bs
unfolding stored
stored_straight [] ring p h = refl
stored_straight (b ∷ []) ring p h = refl
stored_straight (b ∷ c ∷ cs) ring p h =
    let same : length (set ring p b) ≡ length ring = length-set ring p b in
    rw (next_on (length ring) p (λ e. omega arith), add-one p)
    (stored_straight (c ∷ cs) (set ring p b) (suc p) (omega arith))

-- and those that reach it go on at its start
stored_turn : (cs bs ring : List ℕ) (p : ℕ) → p < length ring → p + length cs ≡ length ring
    → stored ring p (cs ++ bs) ≡ stored (sets ring p cs) 0 bs
unfolding stored
stored_turn [] bs ring p h e = absurd (omega (arith, e))
stored_turn (c ∷ []) bs ring p h e = rw (next_end (length ring) p e, stored)
stored_turn (c ∷ b ∷ cs) bs ring p h e =
    let same : length (set ring p c) ≡ length ring = length-set ring p c in
    let on : next (length ring) p ≡ suc p = next_on (length ring) p (λ q. omega (arith, q, e)) ∙ add-one p in
    ap (λ (q : ℕ). stored (set ring p c) q ((b ∷ cs) ++ bs)) on ∙
    (stored_turn (b ∷ cs) bs (set ring p c) (suc p) (omega (arith, e)) (omega (arith, e)))

pub stored_round : (source ring : List ℕ) (p room : ℕ) → p < length ring → room ≡ length ring - p → room ≤ length source
    → length source ≤ length ring
    → stored ring p source ≡ sets (sets ring p (take room source)) 0 (drop room source)
stored_round source ring p room h e f g =
    let front : length (take room source) ≡ room = simp length-take (omega arith) in
    ap (stored ring p) (sym (take-append-drop room source))
    ∙ stored_turn (take room source) (drop room source) ring p h (omega (arith, front))
    ∙ stored_straight (drop room source) (sets ring p (take room source)) 0
    (simp (length-drop, length-sets) (omega arith))

-- a byte that the stores pass by keeps its value: it lies before the first and after the last of them, round the end
pub stored_other : (bs ring : List ℕ) (p i : ℕ) → p < length ring → i < length ring → (p ≤ i → p + length bs ≤ i)
    → (i < p → p + length bs ≤ length ring + i)
    → get_or (stored ring p bs) i 0 ≡ get_or ring i 0
unfolding stored
stored_other [] ring p i hp hi f g = refl
stored_other (b ∷ bs) ring p i hp hi f g =
    let apart : i ≡ p → ⊥ = (λ e. omega (arith, f (omega arith))) in
    let same : length (set ring p b) ≡ length ring = length-set ring p b in
    elim (ℕ_discrete (p + 1) (length ring)) [
      | yes e ↦
          rw (next_end (length ring) p e)
          (stored_other bs (set ring p b) 0 i (omega arith) (omega arith)
          (λ z. omega (arith, g (omega (arith, apart)))) (λ z. omega arith)
          ∙ get_or-set_other ring p i b 0 apart)
      | no e ↦
          rw (next_on (length ring) p e)
          (stored_other bs (set ring p b) (p + 1) i (omega (arith, e)) (omega arith)
          (λ z. omega (arith, f (omega arith))) (λ z. omega (arith, g (omega (arith, apart))))
          ∙ get_or-set_other ring p i b 0 apart)
    ]

-- the tail is a position
pub tail_inside : (n head used : ℕ) → head < n → used ≤ n → wrapped n (head + used) < n
tail_inside n head used h k =
    by_ltb (λ (p : ℕ). p < n) (head + used) n (head + used) (head + used - n) (λ i. i) (λ i. omega arith)

-- the position after the tail is the tail of one byte more
next_tail : (n t : ℕ) → t + 1 < n + n → next n (wrapped n t) ≡ wrapped n (t + 1)
next_tail n t h =
    by_ltb (λ (p : ℕ). next n p ≡ wrapped n (t + 1)) t n t (t - n)
    (λ k. by_ltb (λ (q : ℕ). next n t ≡ q) (t + 1) n (t + 1) (t + 1 - n)
    (λ m. next_on n t (λ e. omega arith)) (λ m. next_end n t (omega arith) ∙ omega arith))
    (λ k. next_on n (t - n) (λ e. omega arith) ∙ sym (rw (le-ltb (t + 1) n (omega arith)) (omega arith)))

-- one byte more at the back
content_push : (ring : List ℕ) (head used b : ℕ) → head < length ring → used < length ring
    → content (set ring (wrapped (length ring) (head + used)) b) head (used + 1) ≡ content ring head used ++ (b ∷ [])
unfolding content older_stretch newer_stretch
content_push ring head used b hh hu =
    by_ltb (λ (p : ℕ). take (used + 1) (drop head (set ring p b)) ++ take (head + (used + 1) - length (set ring p b))
    (set ring p b)
    ≡ (take used (drop head ring) ++ take (head + used - length ring) ring) ++ (b ∷ []))
    (head + used) (length ring) (head + used) (head + used - length ring)
    (λ k.
    let e : head + suc used - length ring ≡ 0 = omega arith in
    let e' : head + used - length ring ≡ 0 = omega arith in
    let inside : used < length (drop head ring) = simp length-drop (omega arith) in
    simp (length-set, e, e', drop-set-add, append-nil, add-one, take-suc-set (drop head ring) used b inside))
    (λ k.
    let e : head + (used + 1) - length ring ≡ suc (head + used - length ring) = omega arith in
    let inside : head + used - length ring < length ring = omega arith in
    let f : drop head (set ring (head + used - length ring) b) ≡ drop head ring =
    drop-set-lt head ring (head + used - length ring) b (omega arith) in
    let g : take (used + 1) (drop head ring) ≡ drop head ring =
    take_all (used + 1) (drop head ring) (simp length-drop (omega arith)) in
    let g' : take used (drop head ring)
    ≡ drop head ring = take_all used (drop head ring) (simp length-drop (omega arith)) in
    simp (length-set, e, f, g, g', append_assoc, take-suc-set ring (head + used - length ring) b inside))

-- the first byte stored behind, and the others behind it
behind_cons : (b : ℕ) (bs ring : List ℕ) (head used : ℕ) → head < length ring → used < length ring
    → stored_behind ring head used (b ∷ bs)
    ≡ stored_behind (set ring (wrapped (length ring) (head + used)) b) head (used + 1) bs
unfolding stored
behind_cons b bs ring head used hh hu =
    let p : ℕ = wrapped (length ring) (head + used) in
    let at : next (length ring) p ≡ wrapped (length (set ring p b)) (head + (used + 1)) =
    next_tail (length ring) (head + used) (omega arith) ∙ rw (length-set ring p b, add_assoc) in
    ap (λ (q : ℕ). stored (set ring p b) q bs) at

-- STORING BEHIND APPENDS, if there is room
pub content_store : (bs ring : List ℕ) (head used : ℕ) → head < length ring → used + length bs ≤ length ring
    → content (stored_behind ring head used bs) head (used + length bs) ≡ content ring head used ++ bs
content_store [] ring head used hh hu = unfold stored in rw (add-zero, append-nil)
content_store (b ∷ bs) ring head used hh hu =
    let p : ℕ = wrapped (length ring) (head + used) in
    let e : used + suc (length bs) ≡ used + 1 + length bs = omega arith in
    let same : length (set ring p b) ≡ length ring = length-set ring p b in
    ap (λ (l : List ℕ). content l head (used + suc (length bs))) (behind_cons b bs ring head used hh (omega arith))
    ∙ rw e
    (content_store bs (set ring p b) head (used + 1) (omega arith) (omega arith)
    ∙ ap (λ (l : List ℕ). l ++ bs) (content_push ring head used b hh (omega arith))
    ∙ append_assoc (content ring head used) (b ∷ []) bs)

-- bytes stored behind, and then more, are stored as one
pub store_append : (bs cs ring : List ℕ) (head used : ℕ) → head < length ring → used + length bs ≤ length ring
    → stored_behind (stored_behind ring head used bs) head (used + length bs) cs ≡ stored_behind ring head used (bs ++ cs)
store_append [] cs ring head used hh hu = unfold stored in rw add-zero
store_append (b ∷ bs) cs ring head used hh hu =
    let p : ℕ = wrapped (length ring) (head + used) in
    let e : used + suc (length bs) ≡ used + 1 + length bs = omega arith in
    let same : length (set ring p b) ≡ length ring = length-set ring p b in
    ap (λ (l : List ℕ). stored_behind l head (used + suc (length bs)) cs)
    (behind_cons b bs ring head used hh (omega arith))
    ∙ rw e (store_append bs cs (set ring p b) head (used + 1) (omega arith) (omega arith))
    ∙ sym (behind_cons b (bs ++ cs) ring head used hh (omega arith))

drop_take : (m n : ℕ) (l : List ℕ) → drop m (take n l) ≡ take (n - m) (drop m l)
drop_take zero n l = rw sub-zero
drop_take (suc m) zero l = let e : 0 - suc m ≡ 0 = omega arith in rw e
drop_take (suc m) (suc n) [] = sym (take-nil (suc n - suc m))
drop_take (suc m) (suc n) (x ∷ l) = let e : suc n - suc m ≡ n - m = omega arith in rw e (drop_take m n l)

take_both : (n : ℕ) (l m : List ℕ) → take n (l ++ m) ≡ take n l ++ take (n - length l) m
take_both zero l m = let e : 0 - length l ≡ 0 = omega arith in rw e
take_both (suc n) [] m = rw sub-zero
take_both (suc n) (x ∷ l) m =
    let e : suc n - suc (length l) ≡ n - length l = omega arith in rw e (ap (λ (k : List ℕ). x ∷ k) (take_both n l m))

-- what the ring holds, read off the ring written twice
doubled : (ring : List ℕ) (head used : ℕ) → head ≤ length ring
    → content ring head used ≡ take used (drop head (ring ++ ring))
unfolding content older_stretch newer_stretch
doubled ring head used h =
    let e : head + used - length ring ≡ used - length (drop head ring) = simp length-drop (omega arith) in
    rw (drop-append-le head ring ring h, e) (sym (take_both used (drop head ring) ring))

-- TAKING DROPS: the head moves on, and the bytes passed are free
pub content_take : (ring : List ℕ) (head used count : ℕ) → head < length ring → used ≤ length ring → count ≤ used
    → content ring (wrapped (length ring) (head + count)) (used - count) ≡ drop count (content ring head used)
content_take ring head used count hh hu hc =
    by_ltb (λ (p : ℕ). content ring p (used - count) ≡ drop count (content ring head used))
    (head + count) (length ring) (head + count) (head + count - length ring)
    (λ k. from (head + count) (omega arith) refl)
    (λ k.
    let r : ℕ = head + count - length ring in
    let e : head + count ≡ length ring + r = omega arith in
    from r (omega arith)
    (ap (take (used - count)) (drop-append-le r ring ring (omega arith))
    ∙ take-append-le (used - count) (drop r ring) ring (simp length-drop (omega arith))
    ∙ sym (ap (λ (j : ℕ). take (used - count) (drop j (ring ++ ring))) e
    ∙ ap (take (used - count)) (drop-append-add ring ring r))))
  where
    from : (p : ℕ) → p ≤ length ring
        → take (used - count) (drop p (ring ++ ring)) ≡ take (used - count) (drop (head + count) (ring ++ ring))
        → content ring p (used - count) ≡ drop count (content ring head used)
    from p h e =
        doubled ring p (used - count) h ∙ e
        ∙ sym (ap (drop count) (doubled ring head used (omega arith)) ∙ drop_take count used (drop head (ring ++ ring))
        ∙ ap (take (used - count)) (drop-drop count head (ring ++ ring)))

-- and the bytes behind go where they would have gone
pub tail_stays : (n head used count : ℕ) → head < n → used ≤ n → count ≤ used
    → wrapped n (wrapped n (head + count) + (used - count)) ≡ wrapped n (head + used)
tail_stays n head used count hh hu hc =
    by_ltb (λ (p : ℕ). wrapped n (p + (used - count)) ≡ wrapped n (head + used)) (head + count) n (head + count)
    (head + count - n)
    (λ k. let e : head + count + (used - count) ≡ head + used = omega arith in rw e)
    (λ k.
    let e : head + count - n + (used - count) ≡ head + used - n = omega arith in
    rw (e, lt-ltb (head + used - n) n (omega arith), le-ltb (head + used) n (omega arith)))
