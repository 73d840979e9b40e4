-- What the definitions of Places name is the first, the last, the latest that passes the test; and the same of a list of images. Assumes nothing.
use mathlib.Core.Path.{◌≡◌, refl, sym, ap, ap₂, ◌∙◌}
use mathlib.Core.Logic.{inl, inr}
use mathlib.Core.Bool.{Bool, true, false, cond, ◌||◌, false≢true}
use mathlib.Core.List.{List, [], ◌∷◌, ◌++◌, map}
use Prim.Native.Nat.{ℕ, suc, ◌+◌, ◌≤◌, ◌<◌}
use native.Mathlib.Omega.{arith}
use lib.Dec.{T}
use lib.ListN.{length, length-map}
use Rattle.base.proofs.Test.{T→≡, ≡→T, ¬T→≡, cases, by_test, cond_yes, cond_no, or_neither, of_left, of_right, either_of}
use Rattle.base.specs.Lists.{Every, Some}
use Rattle.base.proofs.ListLaws.{some_right}
use Rattle.base.specs.Places.{any_of, first_from, last_from, last_value, IsFirst, IsLast, Latest, latest_number, latest_value}

module _ {A : Type 0} (f : A → Bool) where
  fails : (a : A) → f a ≡ false → ¬ T (f a)
  fails a e t = false≢true (sym e ∙ T→≡ (f a) t)

  none_after : (a : A) (l : List A) → ¬ T (f a) → Every (λ a. ¬ T (f a)) l → Every (λ a. ¬ T (f a)) (a ∷ l)
  unfolding Every
  none_after a l h k = (h, k)

  pub none_of_any : (l : List A) → any_of f l ≡ false → Every (λ a. ¬ T (f a)) l
  unfolding any_of Every
  none_of_any [] e = tt
  none_of_any (a ∷ l) e = let (h, k) = or_neither (f a) (any_of f l) e in (fails a h, none_of_any l k)

  pub some_of_any : (l : List A) → T (any_of f l) → Some (λ a. T (f a)) l
  unfolding any_of Some
  some_of_any [] t = t
  some_of_any (a ∷ l) t = either_of (f a) (any_of f l) (λ k. inl k) (λ k. inr (some_of_any l k)) t

  pub any_of_some : (l : List A) → Some (λ a. T (f a)) l → T (any_of f l)
  unfolding any_of Some
  any_of_some [] h = h
  any_of_some (a ∷ l) (inl h) = of_left (f a) (any_of f l) h
  any_of_some (a ∷ l) (inr h) = of_right (f a) (any_of f l) (any_of_some l h)

  -- ---- the first

  pub first_none : (i : ℕ) (l : List A) → any_of f l ≡ false → first_from f i l ≡ 0
  unfolding any_of first_from
  first_none i [] e = refl
  first_none i (a ∷ l) e = let (h, k) = or_neither (f a) (any_of f l) e in cond_no (f a) i (first_from f (suc i) l) h ∙ first_none (suc i) l k

  pub first_some : (l : List A) (i : ℕ) → T (any_of f l) → (k : ℕ) × IsFirst f l (suc k) × (first_from f i l ≡ i + k)
  unfolding any_of first_from
  first_some [] i t = absurd t
  first_some (a ∷ l) i t = cases (f a) here (λ e. further e (first_some l (suc i)))
    where
      here : f a ≡ true → (k : ℕ) × IsFirst f (a ∷ l) (suc k) × (cond (f a) i (first_from f (suc i) l) ≡ i + k)
      here e = (
        0,
        record { before = []; this = a; behind = l; in_order = refl; number = refl; such = ≡→T e; none_before = unfold Every in tt },
        cond_yes (f a) i (first_from f (suc i) l) e ∙ omega arith,
      )

      further : f a ≡ false → (T (any_of f l) → (k : ℕ) × IsFirst f l (suc k) × (first_from f (suc i) l ≡ suc i + k))
          → (k : ℕ) × IsFirst f (a ∷ l) (suc k) × (cond (f a) i (first_from f (suc i) l) ≡ i + k)
      further e rec =
          let (k, o, g) = rec (either_of (f a) (any_of f l) (λ u. absurd (fails a e u)) (λ u. u) t) in (
            suc k,
            record {
              before = a ∷ o.before;
              this = o.this;
              behind = o.behind;
              in_order = ap (λ (m : List A). a ∷ m) o.in_order;
              number = ap suc o.number;
              such = o.such;
              none_before = none_after a o.before (fails a e) o.none_before;
            },
            cond_no (f a) i (first_from f (suc i) l) e ∙ g ∙ omega arith,
          )

  -- ---- the last

  pub last_none : (found i : ℕ) (l : List A) → any_of f l ≡ false → last_from f found i l ≡ found
  unfolding any_of last_from
  last_none found i [] e = refl
  last_none found i (a ∷ l) e = let (h, k) = or_neither (f a) (any_of f l) e in last_none (cond (f a) i found) (suc i) l k ∙ cond_no (f a) i found h

  pub last_some : (l : List A) (found i : ℕ) → T (any_of f l) → (k : ℕ) × IsLast f l (suc k) × (last_from f found i l ≡ i + k)
  unfolding any_of last_from
  last_some [] found i t = absurd t
  last_some (a ∷ l) found i t = cases (any_of f l) (λ e. further (last_some l (cond (f a) i found) (suc i) (≡→T e))) here
    where
      here : any_of f l ≡ false → (k : ℕ) × IsLast f (a ∷ l) (suc k) × (last_from f (cond (f a) i found) (suc i) l ≡ i + k)
      here e =
          let such : T (f a) = either_of (f a) (any_of f l) (λ u. u) (λ u. absurd (false≢true (sym e ∙ T→≡ (any_of f l) u))) t in (
            0,
            record { before = []; this = a; behind = l; in_order = refl; number = refl; such = such; none_behind = none_of_any l e },
            last_none (cond (f a) i found) (suc i) l e ∙ cond_yes (f a) i found (T→≡ (f a) such) ∙ omega arith,
          )

      further : (k : ℕ) × IsLast f l (suc k) × (last_from f (cond (f a) i found) (suc i) l ≡ suc i + k)
          → (k : ℕ) × IsLast f (a ∷ l) (suc k) × (last_from f (cond (f a) i found) (suc i) l ≡ i + k)
      further (k, o, g) = (
        suc k,
        record {
          before = a ∷ o.before;
          this = o.this;
          behind = o.behind;
          in_order = ap (λ (m : List A). a ∷ m) o.in_order;
          number = ap suc o.number;
          such = o.such;
          none_behind = o.none_behind;
        },
        g ∙ omega arith,
      )

  -- counted from 1, as the definitions do
  pub first_place_lem : (l : List A) → T (any_of f l) → IsFirst f l (first_from f 1 l)
  first_place_lem l t = let (k, o, g) = first_some l 1 t in rw (g ∙ (let z : 1 + k ≡ suc k = omega arith in z)) o

  pub last_place_lem : (l : List A) → T (any_of f l) → IsLast f l (last_from f 0 1 l)
  last_place_lem l t = let (k, o, g) = last_some l 0 1 t in rw (g ∙ (let z : 1 + k ≡ suc k = omega arith in z)) o

  -- the place of a member behind which none passes
  last_from_lem : (before : List A) (a : A) (behind : List A) (found i : ℕ) → T (f a) → any_of f behind ≡ false
      → last_from f found i (before ++ (a ∷ behind)) ≡ i + length before
  unfolding last_from
  last_from_lem [] a behind found i t e = last_none (cond (f a) i found) (suc i) behind e ∙ cond_yes (f a) i found (T→≡ (f a) t) ∙ omega arith
  last_from_lem (b ∷ before) a behind found i t e = last_from_lem before a behind (cond (f b) i found) (suc i) t e ∙ omega arith

  any_of_none : (l : List A) → Every (λ a. ¬ T (f a)) l → any_of f l ≡ false
  unfolding any_of Every
  any_of_none [] h = refl
  any_of_none (a ∷ l) h = rw (¬T→≡ (f a) h.0) (any_of_none l h.1)

  pub last_number : (before : List A) (a : A) (behind : List A) → T (f a) → Every (λ a. ¬ T (f a)) behind
      → last_from f 0 1 (before ++ (a ∷ behind)) ≡ suc (length before)
  last_number before a behind t n = last_from_lem before a behind 0 1 t (any_of_none behind n) ∙ omega arith

  -- ---- what is said of the last

  pub value_none : {B : Type 0} (g : A → B) (none : B) (l : List A) → any_of f l ≡ false → last_value f g none l ≡ none
  unfolding any_of last_value
  value_none g none [] e = refl
  value_none g none (a ∷ l) e =
      let (h, k) = or_neither (f a) (any_of f l) e in value_none g (cond (f a) (g a) none) l k ∙ cond_no (f a) (g a) none h

  value_from : {B : Type 0} (g : A → B) (none : B) (before : List A) (a : A) (behind : List A) → T (f a) → Every (λ a. ¬ T (f a)) behind
      → last_value f g none (before ++ (a ∷ behind)) ≡ g a
  unfolding last_value
  value_from g none [] a behind t n =
      value_none g (cond (f a) (g a) none) behind (any_of_none behind n) ∙ cond_yes (f a) (g a) none (T→≡ (f a) t)
  value_from g none (b ∷ before) a behind t n = value_from g (cond (f b) (g b) none) before a behind t n

  pub value_last : {B : Type 0} (g : A → B) (none : B) (l : List A) (k : ℕ) (o : IsLast f l k) → last_value f g none l ≡ g o.this
  value_last g none l k o = rw o.in_order (value_from g none o.before o.this o.behind o.such o.none_behind)

  -- ---- the latest

  pub number_none : (h : List A) → any_of f h ≡ false → latest_number f h ≡ 0
  unfolding any_of latest_number
  number_none [] e = refl
  number_none (a ∷ h) e = let (i, k) = or_neither (f a) (any_of f h) e in cond_no (f a) (suc (length h)) (latest_number f h) i ∙ number_none h k

  -- it is no later than there are many
  pub number_bound : (h : List A) → latest_number f h ≤ length h
  unfolding latest_number
  number_bound [] = omega arith
  number_bound (a ∷ h) =
      let r = number_bound h in
      by_test (λ (n : ℕ). n ≤ length (a ∷ h)) (f a) (suc (length h)) (latest_number f h) (λ e. omega arith) (λ e. omega arith)

  -- what is singled out is what is numbered, and what is spoken of
  pub number_latest : (h : List A) (o : Latest f h) → latest_number f h ≡ suc (length o.before)
  unfolding latest_number Every
  number_latest h o = rw o.in_order (go o.since o.none_since)
    where
      go : (since : List A) → Every (λ e. ¬ T (f e)) since → latest_number f (since ++ (o.this ∷ o.before)) ≡ suc (length o.before)
      go [] n = cond_yes (f o.this) (suc (length o.before)) (latest_number f o.before) (T→≡ (f o.this) o.such)
      go (a ∷ since) n =
          cond_no (f a) (suc (length (since ++ (o.this ∷ o.before)))) (latest_number f (since ++ (o.this ∷ o.before))) (¬T→≡ (f a) n.0)
          ∙ go since n.1

  pub value_latest : {B : Type 0} (g : A → B) (none : B) (h : List A) (o : Latest f h) → latest_value f g none h ≡ g o.this
  unfolding latest_value Every
  value_latest g none h o = rw o.in_order (go o.since o.none_since)
    where
      go : (since : List A) → Every (λ e. ¬ T (f e)) since → latest_value f g none (since ++ (o.this ∷ o.before)) ≡ g o.this
      go [] n = cond_yes (f o.this) (g o.this) (latest_value f g none o.before) (T→≡ (f o.this) o.such)
      go (a ∷ since) n =
          cond_no (f a) (g a) (latest_value f g none (since ++ (o.this ∷ o.before))) (¬T→≡ (f a) n.0) ∙ go since n.1

  -- a further step, that fails the test
  pub latest_older : (a : A) (h : List A) → ¬ T (f a) → Latest f h → Latest f (a ∷ h)
  latest_older a h n o = record {
    since = a ∷ o.since;
    this = o.this;
    before = o.before;
    in_order = ap (λ (m : List A). a ∷ m) o.in_order;
    such = o.such;
    none_since = none_after a o.since n o.none_since;
  }

  -- and one that passes it
  pub latest_now : (a : A) (h : List A) → T (f a) → Latest f (a ∷ h)
  latest_now a h t = record { since = []; this = a; before = h; in_order = refl; such = t; none_since = unfold Every in tt }

  pub latest_of_any : (h : List A) → T (any_of f h) → Latest f h
  unfolding any_of
  latest_of_any [] t = absurd t
  latest_of_any (a ∷ h) t = cases (f a) (λ e. latest_now a h (≡→T e))
      (λ e. latest_older a h (fails a e)
      (latest_of_any h (either_of (f a) (any_of f h) (λ u. absurd (fails a e u)) (λ u. u) t)))

  -- there is one latest step
  one_latest : (since since' : List A) (a a' : A) (b b' : List A) → since ++ (a ∷ b) ≡ since' ++ (a' ∷ b')
      → Every (λ e. ¬ T (f e)) since → T (f a)
      → Every (λ e. ¬ T (f e)) since' → T (f a') → (a ≡ a') × (b ≡ b')
  unfolding Every
  one_latest [] [] a a' b b' e n t n' t' = (cc, cc)
  one_latest [] (x ∷ since') a a' b b' e n t n' t' = let g : a ≡ x = cc in absurd (n'.0 (rw g at t))
  one_latest (x ∷ since) [] a a' b b' e n t n' t' = let g : a' ≡ x = cc in absurd (n.0 (rw g at t'))
  one_latest (x ∷ since) (y ∷ since') a a' b b' e n t n' t' =
      let g : since ++ (a ∷ b) ≡ since' ++ (a' ∷ b') = cc in one_latest since since' a a' b b' g n.1 t n'.1 t'

  pub latest_one : (h : List A) (o o' : Latest f h) → (o.this ≡ o'.this) × (o.before ≡ o'.before)
  latest_one h o o' =
      one_latest o.since o'.since o.this o'.this o.before o'.before (sym o.in_order ∙ o'.in_order) o.none_since
      o.such o'.none_since o'.such

-- what has a number is there
pub latest_of_number : {A : Type 0} (f : A → Bool) (h : List A) → 0 < latest_number f h → Latest f h
latest_of_number f h l = latest_of_any f h (cases (any_of f h) (λ e. ≡→T e) (λ e. absurd (nothing e)))
  where
    nothing : any_of f h ≡ false → ⊥
    nothing e = let z : latest_number f h ≡ 0 = number_none f h e in omega (arith, z, l)

-- ---- the same of a list of images

module _ {A B : Type 0} (m : B → A) (f : A → Bool) (f' : B → Bool) (same : (b : B) → f (m b) ≡ f' b) where
  pub any_map : (l : List B) → any_of f (map m l) ≡ any_of f' l
  unfolding any_of
  any_map [] = refl
  any_map (b ∷ l) = ap₂ ◌||◌ (same b) (any_map l)

  pub first_map : (i : ℕ) (l : List B) → first_from f i (map m l) ≡ first_from f' i l
  unfolding first_from
  first_map i [] = refl
  first_map i (b ∷ l) = rw (same b, first_map (suc i) l)

  pub last_map : (found i : ℕ) (l : List B) → last_from f found i (map m l) ≡ last_from f' found i l
  unfolding last_from
  last_map found i [] = refl
  last_map found i (b ∷ l) =
      ap (λ (t : Bool). last_from f (cond t i found) (suc i) (map m l)) (same b) ∙ last_map (cond (f' b) i found) (suc i) l

  pub last_value_map : {C : Type 0} (g : A → C) (g' : B → C) → ((b : B) → g (m b) ≡ g' b) → (none : C) (l : List B)
      → last_value f g none (map m l) ≡ last_value f' g' none l
  unfolding last_value
  last_value_map g g' e none [] = refl
  last_value_map g g' e none (b ∷ l) =
      ap₂ (λ (t : Bool) c. last_value f g (cond t c none) (map m l)) (same b) (e b) ∙ last_value_map g g' e (cond (f' b) (g' b) none) l

  pub number_map : (h : List B) → latest_number f (map m h) ≡ latest_number f' h
  unfolding latest_number
  number_map [] = refl
  number_map (b ∷ h) = rw (same b, length-map h m, number_map h)

  pub latest_value_map : {C : Type 0} (g : A → C) (g' : B → C) → ((b : B) → g (m b) ≡ g' b) → (none : C) (h : List B)
      → latest_value f g none (map m h) ≡ latest_value f' g' none h
  unfolding latest_value
  latest_value_map g g' e none [] = refl
  latest_value_map g g' e none (b ∷ h) = rw (same b, e b, latest_value_map g g' e none h)

  map_two : (l r : List B) → map m (l ++ r) ≡ map m l ++ map m r
  map_two [] r = refl
  map_two (b ∷ l) r = ap (λ (k : List A). m b ∷ k) (map_two l r)

  none_map : (l : List B) → Every (λ e. ¬ T (f' e)) l → Every (λ e. ¬ T (f e)) (map m l)
  unfolding Every
  none_map [] n = tt
  none_map (b ∷ l) n = ((λ t. n.0 (≡→T (sym (same b) ∙ T→≡ (f (m b)) t))), none_map l n.1)

  -- what holds of the latest image holds of the image of the latest
  pub latest_image : (P : A → List A → Type 0) (h : List B) → ((k : Latest f (map m h)) → P k.this k.before) → (o : Latest f' h)
      → P (m o.this) (map m o.before)
  latest_image P h g o =
      g record {
        since = map m o.since;
        this = m o.this;
        before = map m o.before;
        in_order = ap (map m) o.in_order ∙ map_two o.since (o.this ∷ o.before);
        such = ≡→T (same o.this ∙ T→≡ (f' o.this) o.such);
        none_since = none_map o.since o.none_since;
      }

-- the first of those that pass is one that passes
pub first_any : {A : Type 0} (f : A → Bool) (l : List A) (k : ℕ) → IsFirst f l k → T (any_of f l)
first_any f l k o =
    rw o.in_order
    (any_of_some f (o.before ++ (o.this ∷ o.behind))
    (some_right (λ a. T (f a)) o.before (o.this ∷ o.behind) (unfold Some in inl o.such)))

-- ---- the same of two tests that agree on every member

module _ {A : Type 0} (f f' : A → Bool) where
  pub any_same : (l : List A) → Every (λ a. f a ≡ f' a) l → any_of f l ≡ any_of f' l
  unfolding any_of
  any_same [] h = refl
  any_same (a ∷ l) h = ap₂ ◌||◌ h.0 (any_same l h.1)

  pub first_same : (i : ℕ) (l : List A) → Every (λ a. f a ≡ f' a) l → first_from f i l ≡ first_from f' i l
  unfolding first_from
  first_same i [] h = refl
  first_same i (a ∷ l) h = rw (h.0, first_same (suc i) l h.1)

  pub last_same : (found i : ℕ) (l : List A) → Every (λ a. f a ≡ f' a) l → last_from f found i l ≡ last_from f' found i l
  unfolding last_from
  last_same found i [] h = refl
  last_same found i (a ∷ l) h =
      ap (λ (t : Bool). last_from f (cond t i found) (suc i) l) h.0 ∙ last_same (cond (f' a) i found) (suc i) l h.1

  pub last_value_same : {B : Type 0} (g : A → B) (none : B) (l : List A) → Every (λ a. f a ≡ f' a) l
      → last_value f g none l ≡ last_value f' g none l
  unfolding last_value
  last_value_same g none [] h = refl
  last_value_same g none (a ∷ l) h =
      ap (λ (t : Bool). last_value f g (cond t (g a) none) l) h.0 ∙ last_value_same g (cond (f' a) (g a) none) l h.1

  pub number_same : (h : List A) → Every (λ a. f a ≡ f' a) h → latest_number f h ≡ latest_number f' h
  unfolding latest_number
  number_same [] s = refl
  number_same (a ∷ h) s = rw (s.0, number_same h s.1)

  pub latest_value_same : {B : Type 0} (g g' : A → B) (none : B) (h : List A) → Every (λ a. (f a ≡ f' a) × (g a ≡ g' a)) h
      → latest_value f g none h ≡ latest_value f' g' none h
  unfolding latest_value
  latest_value_same g g' none [] s = refl
  latest_value_same g g' none (a ∷ h) s = rw (s.0.0, s.0.1, latest_value_same g g' none h s.1)
