-- Cutting a parameter loses no value. A real's pieces hold what it holds, wherever it is cut. An integer's pieces owe what it owes: the first cut owes
-- every integer of the range, its ends among them; a later one at any integer of the interval owes what the interval owes. Assumes nothing.
use mathlib.Core.Path.{◌≡◌, refl, sym, ap, ◌∙◌}
use mathlib.Core.Logic.{◌⊎◌, inl, inr, ⊎_elim}
use mathlib.Core.Bool.{Bool, true, false, cond, ◌&&◌}
use mathlib.Core.List.{List, [], ◌∷◌, ◌++◌}
use lib.Dec.{T}
use lib.IntN.{ℤ, suc_ℤ}
use lib.Signed.{◌≤ℤ◌, ◌<ℤ◌, <ℤ_irrefl}
use Rattle.base.proofs.Test.{≡→T, by_test, both_of}
use Rattle.theory.specs.Cuts.{End, minus_inf, finite, plus_inf, Span, span, point_span, first_pieces, later_pieces, FromEnd, UpToEnd, InSpan}
use Rattle.theory.specs.Cuts.{OverEnd, UnderEnd, Owes, is_step, has_width1, has_width2, without_width1, next_end, middle_if_width2, same_end}
use Rattle.theory.specs.Cuts.{unlike_before, no_repeats, first_integers, later_integers}
use Rattle.base.specs.Lists.{Some}
use Rattle.base.proofs.ListLaws.{some_left, some_right, some_mono, some_map}
use Rattle.theory.proofs.IntegerLaws.{compare, equal_or_less, less_trans, less_next, none_between, same_integer_lem}

-- ---- reals

module _ {N : Type 0} (Le : N → N → Type 0) where
  pub first_pieces_hold : (v : Span N) (x : N) → InSpan Le v x → Some (λ u. InSpan Le u x) (first_pieces v)
  unfolding first_pieces Some
  first_pieces_hold v x h = some_right (λ u. InSpan Le u x) (point_span v.lower) (v ∷ point_span v.upper) (inl h)

  pub later_pieces_hold : ((a b : N) → Le a b ⊎ Le b a) → (c : N) (v : Span N) (x : N) → InSpan Le v x → Some (λ u. InSpan Le u x) (later_pieces c v)
  unfolding later_pieces Some InSpan FromEnd UpToEnd
  later_pieces_hold total c v x h = ⊎_elim (λ k. inl (h.0, k)) (λ k. inr (inr (inl (k, h.1)))) (total x c)

-- ---- integers

-- what has width 1 owes nothing
width1_owes_none : (v : Span ℤ) (x : ℤ) → T (has_width1 v) → ¬ Owes v x
unfolding Owes has_width1 is_step OverEnd UnderEnd
width1_owes_none v x t (inl e) = not_next (same_integer_lem x (suc_ℤ x) (rw e at t))
  where
    not_next : x ≡ suc_ℤ x → ⊥
    not_next f = <ℤ_irrefl (rw (← f) at (less_next x))
width1_owes_none v x t (inr h) = go v.lower v.upper t h.0 h.1
  where
    go : (a b : End ℤ) → T (is_step suc_ℤ a b) → OverEnd a x → UnderEnd x b → ⊥
    go minus_inf b t l u = t
    go (finite a) minus_inf t l u = t
    go (finite a) (finite b) t l u = none_between a x l (rw (same_integer_lem b (suc_ℤ a) t) at u)
    go (finite a) plus_inf t l u = t
    go plus_inf b t l u = t

without_width1_owes : (l : List (Span ℤ)) (x : ℤ) → Some (λ u. Owes u x) l → Some (λ u. Owes u x) (without_width1 l)
unfolding Some without_width1
without_width1_owes [] x h = h
without_width1_owes (v ∷ l) x h = go (has_width1 v) refl h (λ o. without_width1_owes l x o)
  where
    go : (k : Bool) → has_width1 v ≡ k → Owes v x ⊎ Some (λ u. Owes u x) l → (Some (λ u. Owes u x) l → Some (λ u. Owes u x) (without_width1 l))
        → Some (λ u. Owes u x) (cond k (without_width1 l) (v ∷ without_width1 l))
    go true e (inl o) r = absurd (width1_owes_none v x (≡→T e) o)
    go true e (inr o) r = r o
    go false e (inl o) r = inl o
    go false e (inr o) r = inr (r o)

-- what has width 2 owes its middle alone
between_two : (a x : ℤ) → a <ℤ x → x <ℤ suc_ℤ (suc_ℤ a) → x ≡ suc_ℤ a
between_two a x l u = ⊎_elim (λ k. absurd (none_between a x l k)) (⊎_elim (λ e. e) (λ k. absurd (none_between (suc_ℤ a) x k u))) (compare x (suc_ℤ a))

width2_owes_middle : (v : Span ℤ) (x : ℤ) → T (has_width2 v) → Owes v x → Owes (span (next_end v.lower) (next_end v.lower)) x
unfolding Owes has_width2 is_step OverEnd UnderEnd next_end
width2_owes_middle v x t (inl e) = absurd (not_next (same_integer_lem x (suc_ℤ (suc_ℤ x)) (rw e at t)))
  where
    not_next : x ≡ suc_ℤ (suc_ℤ x) → ⊥
    not_next f = <ℤ_irrefl (rw (← f) at (less_trans (less_next x) (less_next (suc_ℤ x))))
width2_owes_middle v x t (inr h) = inl (go v.lower v.upper t h.0 h.1)
  where
    go : (a b : End ℤ) → T (is_step (λ a. suc_ℤ (suc_ℤ a)) a b) → OverEnd a x → UnderEnd x b → span (next_end a) (next_end a) ≡ span (finite x) (finite x)
    go minus_inf b t l u = absurd t
    go (finite a) minus_inf t l u = absurd t
    go (finite a) (finite b) t l u = rw (between_two a x l (rw (same_integer_lem b (suc_ℤ (suc_ℤ a)) t) at u))
    go (finite a) plus_inf t l u = absurd t
    go plus_inf b t l u = absurd t

middle_owes : (divisible : Span ℤ → Bool) (v : Span ℤ) (x : ℤ) → Owes v x → Owes (middle_if_width2 divisible v) x
unfolding middle_if_width2
middle_owes divisible v x o =
    by_test (λ u. Owes u x) (has_width2 v && divisible v) (span (next_end v.lower) (next_end v.lower)) v
    (λ e. width2_owes_middle v x (both_of (has_width2 v) (divisible v) (≡→T e)).0 o) (λ e. o)

-- a repeat owes no more than its equal
same_end_lem : (a b : End ℤ) → T (same_end a b) → a ≡ b
unfolding same_end
same_end_lem minus_inf minus_inf t = refl
same_end_lem minus_inf (finite b) t = absurd t
same_end_lem minus_inf plus_inf t = absurd t
same_end_lem (finite a) minus_inf t = absurd t
same_end_lem (finite a) (finite b) t = ap finite (same_integer_lem a b t)
same_end_lem (finite a) plus_inf t = absurd t
same_end_lem plus_inf minus_inf t = absurd t
same_end_lem plus_inf (finite b) t = absurd t
same_end_lem plus_inf plus_inf t = refl

same_span : (v u : Span ℤ) → T (same_end v.lower u.lower && same_end v.upper u.upper) → v ≡ u
same_span v u t =
    let (a, b) = both_of (same_end v.lower u.lower) (same_end v.upper u.upper) t in
    ap (λ (e : End ℤ). span e v.upper) (same_end_lem v.lower u.lower a) ∙ ap (λ (e : End ℤ). span u.lower e) (same_end_lem v.upper u.upper b)

unlike_before_owes : (P : Span ℤ → Type 0) (v : Span ℤ) (l : List (Span ℤ)) → Some P l → P v ⊎ Some P (unlike_before v l)
unfolding Some unlike_before
unlike_before_owes P v [] h = absurd h
unlike_before_owes P v (u ∷ l) h = go (same_end v.lower u.lower && same_end v.upper u.upper) refl h (λ o. unlike_before_owes P v l o)
    (λ o. unlike_before_owes P u l o)
  where
    go : (k : Bool) → (same_end v.lower u.lower && same_end v.upper u.upper) ≡ k → P u ⊎ Some P l
        → (Some P l → P v ⊎ Some P (unlike_before v l)) → (Some P l → P u ⊎ Some P (unlike_before u l))
        → P v ⊎ Some P (cond k (unlike_before v l) (u ∷ unlike_before u l))
    go true e (inl o) r s = inl (rw (same_span v u (≡→T e)) o)
    go true e (inr o) r s = r o
    go false e (inl o) r s = inr (inl o)
    go false e (inr o) r s = inr (s o)

no_repeats_owe : (P : Span ℤ → Type 0) (l : List (Span ℤ)) → Some P l → Some P (no_repeats l)
unfolding Some no_repeats
no_repeats_owe P [] h = h
no_repeats_owe P (v ∷ l) (inl h) = inl h
no_repeats_owe P (v ∷ l) (inr h) = unlike_before_owes P v l h

-- an end of the range is owed by its point, or lies strictly inside
low_end : (a : End ℤ) (x : ℤ) → FromEnd (λ a b. a ≤ℤ b) a x → (a ≡ finite x) ⊎ OverEnd a x
unfolding FromEnd OverEnd
low_end minus_inf x h = inr tt
low_end (finite a) x h = ⊎_elim (λ e. inl (ap finite e)) (λ l. inr l) (equal_or_less a x h)
low_end plus_inf x h = absurd h

high_end : (b : End ℤ) (x : ℤ) → UpToEnd (λ a b. a ≤ℤ b) x b → (b ≡ finite x) ⊎ UnderEnd x b
unfolding UpToEnd UnderEnd
high_end minus_inf x h = absurd h
high_end (finite b) x h = ⊎_elim (λ e. inl (ap finite (sym e))) (λ l. inr l) (equal_or_less x b h)
high_end plus_inf x h = inr tt

point_owes : (a : End ℤ) (x : ℤ) → a ≡ finite x → Some (λ u. Owes u x) (point_span a)
unfolding point_span Some Owes
point_owes a x e = rw e (inl (inl refl))

pub first_integers_owe : (v : Span ℤ) (x : ℤ) → InSpan (λ a b. a ≤ℤ b) v x → Some (λ u. Owes u x) (first_integers v)
unfolding first_integers first_pieces InSpan Some Owes
first_integers_owe v x h =
    no_repeats_owe (λ u. Owes u x) (without_width1 (point_span v.lower ++ (v ∷ point_span v.upper)))
    (without_width1_owes (point_span v.lower ++ (v ∷ point_span v.upper)) x (go (low_end v.lower x h.0) (high_end v.upper x h.1)))
  where
    go : (v.lower ≡ finite x) ⊎ OverEnd v.lower x → (v.upper ≡ finite x) ⊎ UnderEnd x v.upper
        → Some (λ u. Owes u x) (point_span v.lower ++ (v ∷ point_span v.upper))
    go (inl e) k = some_left (λ u. Owes u x) (point_span v.lower) (v ∷ point_span v.upper) (point_owes v.lower x e)
    go (inr l) (inl e) = some_right (λ u. Owes u x) (point_span v.lower) (v ∷ point_span v.upper) (inr (point_owes v.upper x e))
    go (inr l) (inr u) = some_right (λ u. Owes u x) (point_span v.lower) (v ∷ point_span v.upper) (inl (inr (l, u)))

-- the only integer of [x,x] is x
only_itself : (c x : ℤ) → InSpan (λ a b. a ≤ℤ b) (span (finite x) (finite x)) c → c ≡ x
unfolding InSpan FromEnd UpToEnd
only_itself c x h = ⊎_elim (λ e. sym e) (λ l. ⊎_elim (λ e. e) (λ k. absurd (<ℤ_irrefl (less_trans l k))) (equal_or_less c x h.1)) (equal_or_less x c h.0)

pub later_integers_owe : (divisible : Span ℤ → Bool) (c : ℤ) (v : Span ℤ) (x : ℤ) → InSpan (λ a b. a ≤ℤ b) v c → Owes v x
    → Some (λ u. Owes u x) (later_integers divisible c v)
unfolding later_integers later_pieces Owes Some OverEnd UnderEnd
later_integers_owe divisible c v x i h =
    some_map (λ u. Owes u x) (middle_if_width2 divisible) (without_width1 (later_pieces c v))
    (some_mono (λ u. Owes u x) (λ u. Owes (middle_if_width2 divisible u) x) (without_width1 (later_pieces c v)) (λ u o. middle_owes divisible u x o)
    (without_width1_owes (later_pieces c v) x (go h)))
  where
    three : OverEnd v.lower x → UnderEnd x v.upper → (x <ℤ c) ⊎ ((x ≡ c) ⊎ (c <ℤ x)) → Some (λ u. Owes u x) (later_pieces c v)
    three l u (inl k) = inl (inr (l, k))
    three l u (inr (inl k)) = inr (inl (inl (rw k)))
    three l u (inr (inr k)) = inr (inr (inl (inr (k, u))))

    go : (v ≡ span (finite x) (finite x)) ⊎ (OverEnd v.lower x × UnderEnd x v.upper) → Some (λ u. Owes u x) (later_pieces c v)
    go (inl e) = let f : c ≡ x = only_itself c x (rw e at i) in inr (inl (inl (rw f)))
    go (inr o) = three o.0 o.1 (compare x c)
