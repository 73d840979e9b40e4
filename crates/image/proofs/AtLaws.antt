-- Laws of lists changed or picked by place. Assumes nothing.
use mathlib.Core.Path.{◌≡◌, refl, sym, ap, ap₂, ◌∙◌}
use mathlib.Core.Bool.{Bool, true, false, cond}
use mathlib.Core.List.{List, [], ◌∷◌, ◌++◌, map}
use Prim.Native.Nat.{ℕ, zero, suc, ◌+◌, ◌-◌, ◌≤◌, ◌<◌}
use native.Mathlib.Omega.{arith}
use native.Mathlib.Nat.{add-zero}
use lib.ListN.{length, get_or, take, drop, length-drop, take-append-drop}
use lib.Seq.{length-take-le}
use Rattle.image.specs.Painting.{map_at, keep_at}

module _ {A : Type 0} where
  pub length_map_at : (f : ℕ → A → A) (i : ℕ) (l : List A) → length (map_at f i l) ≡ length l
  length_map_at f i [] = refl
  length_map_at f i (c ∷ l) = ap suc (length_map_at f (suc i) l)

  -- each element afterwards is a function of its place and of what it was
  pub get_d_map_at : (f : ℕ → A → A) (i : ℕ) (l : List A) (k : ℕ) (d : A) → k < length l → get_or (map_at f i l) k d ≡ f (i + k) (get_or l k d)
  get_d_map_at f i [] k d h = absurd (omega arith)
  get_d_map_at f i (c ∷ l) zero d h = rw add-zero
  get_d_map_at f i (c ∷ l) (suc k) d h = let e : i + suc k ≡ suc i + k = omega arith in rw e (get_d_map_at f (suc i) l k d (omega arith))

  -- two changes that agree at every place of the list
  pub map_at_ext : (f g : ℕ → A → A) (i : ℕ) (l : List A) → ((j : ℕ) (c : A) → i ≤ j → j < i + length l → f j c ≡ g j c) → map_at f i l ≡ map_at g i l
  map_at_ext f g i [] h = refl
  map_at_ext f g i (c ∷ l) h = ap₂ ◌∷◌ (h i c (omega arith) (omega arith)) (map_at_ext f g (suc i) l (λ j d k m. h j d (omega arith) (omega arith)))

  pub map_at_none : (i : ℕ) (l : List A) → map_at (λ j c. c) i l ≡ l
  map_at_none i [] = refl
  map_at_none i (c ∷ l) = ap (λ (r : List A). c ∷ r) (map_at_none (suc i) l)

  pub map_at_all : (g : A → A) (i : ℕ) (l : List A) → map_at (λ j c. g c) i l ≡ map g l
  map_at_all g i [] = refl
  map_at_all g i (c ∷ l) = ap (λ (r : List A). g c ∷ r) (map_at_all g (suc i) l)

  -- two changes, one after the other
  pub map_at_map_at : (f g : ℕ → A → A) (i : ℕ) (l : List A) → map_at f i (map_at g i l) ≡ map_at (λ j c. f j (g j c)) i l
  map_at_map_at f g i [] = refl
  map_at_map_at f g i (c ∷ l) = ap (λ (r : List A). f i (g i c) ∷ r) (map_at_map_at f g (suc i) l)

  map_at_append : (f : ℕ → A → A) (i : ℕ) (l m : List A) → map_at f i (l ++ m) ≡ map_at f i l ++ map_at f (i + length l) m
  map_at_append f i [] m = rw add-zero
  map_at_append f i (c ∷ l) m =
      let e : i + suc (length l) ≡ suc i + length l = omega arith in
      rw e (ap (λ (r : List A). f i c ∷ r) (map_at_append f (suc i) l m))

  -- a list in three stretches: before a, k elements from a on, the rest
  thirds : (a k : ℕ) (l : List A) → l ≡ take a l ++ (take k (drop a l) ++ drop k (drop a l))
  thirds a k l = sym (take-append-drop a l) ∙ ap (λ (m : List A). take a l ++ m) (sym (take-append-drop k (drop a l)))

  -- a change of the stretch alone is the stretch's change between the other two
  pub map_at_stretch : (f : ℕ → A → A) (g : A → A) (a k : ℕ) (l : List A) → a + k ≤ length l
      → ((j : ℕ) (c : A) → a ≤ j → j < a + k → f j c ≡ g c) → ((j : ℕ) (c : A) → j < a → f j c ≡ c) → ((j : ℕ) (c : A) → a + k ≤ j → f j c ≡ c)
      → map_at f 0 l ≡ take a l ++ (map g (take k (drop a l)) ++ drop k (drop a l))
  map_at_stretch f g a k l h on below above =
      let la : length (take a l) ≡ a = length-take-le a l (omega arith) in
      let ld : length (drop a l) ≡ length l - a = length-drop a l in
      let lk : length (take k (drop a l)) ≡ k = length-take-le k (drop a l) (omega arith) in
      ap (map_at f 0) (thirds a k l)
      ∙ map_at_append f 0 (take a l) (take k (drop a l) ++ drop k (drop a l))
      ∙ ap₂ ◌++◌
      (map_at_ext f (λ j c. c) 0 (take a l) (λ j c p q. below j c (omega arith)) ∙ map_at_none 0 (take a l))
      (map_at_append f (0 + length (take a l)) (take k (drop a l)) (drop k (drop a l))
      ∙ ap₂ ◌++◌
      (map_at_ext f (λ j c. g c) (0 + length (take a l)) (take k (drop a l)) (λ j c p q. on j c (omega arith) (omega arith)) ∙ map_at_all g (0 + length (take a l)) (take k (drop a l)))
      (map_at_ext f (λ j c. c) (0 + length (take a l) + length (take k (drop a l))) (drop k (drop a l)) (λ j c p q. above j c (omega arith)) ∙ map_at_none (0 + length (take a l) + length (take k (drop a l))) (drop k (drop a l))))

  -- PICKED

  pub keep_at_ext : (t u : ℕ → Bool) (i : ℕ) (l : List A) → ((j : ℕ) → i ≤ j → j < i + length l → t j ≡ u j) → keep_at t i l ≡ keep_at u i l
  keep_at_ext t u i [] h = refl
  keep_at_ext t u i (c ∷ l) h =
      let e = keep_at_ext t u (suc i) l (λ j k m. h j (omega arith) (omega arith)) in
      rw (h i (omega arith) (omega arith), e)

  pub keep_at_none : (t : ℕ → Bool) (i : ℕ) (l : List A) → ((j : ℕ) → i ≤ j → j < i + length l → t j ≡ false) → keep_at t i l ≡ []
  keep_at_none t i [] h = refl
  keep_at_none t i (c ∷ l) h = rw (h i (omega arith) (omega arith)) (keep_at_none t (suc i) l (λ j k m. h j (omega arith) (omega arith)))

  pub keep_at_all : (t : ℕ → Bool) (i : ℕ) (l : List A) → ((j : ℕ) → i ≤ j → j < i + length l → t j ≡ true) → keep_at t i l ≡ l
  keep_at_all t i [] h = refl
  keep_at_all t i (c ∷ l) h = rw (h i (omega arith) (omega arith)) (ap (λ (r : List A). c ∷ r) (keep_at_all t (suc i) l (λ j k m. h j (omega arith) (omega arith))))

  keep_at_append : (t : ℕ → Bool) (i : ℕ) (l m : List A) → keep_at t i (l ++ m) ≡ keep_at t i l ++ keep_at t (i + length l) m
  keep_at_append t i [] m = rw add-zero
  keep_at_append t i (c ∷ l) m =
      let e : i + suc (length l) ≡ suc i + length l = omega arith in
      rw (e, keep_at_append t (suc i) l m) (go (t i))
    where
      go : (b : Bool) → cond b (c ∷ (keep_at t (suc i) l ++ keep_at t (suc i + length l) m)) (keep_at t (suc i) l ++ keep_at t (suc i + length l) m)
          ≡ cond b (c ∷ keep_at t (suc i) l) (keep_at t (suc i) l) ++ keep_at t (suc i + length l) m
      go true = refl
      go false = refl

  pub length_keep_at : (t : ℕ → Bool) (i : ℕ) (l : List A) → length (keep_at t i l) ≤ length l
  length_keep_at t i [] = omega arith
  length_keep_at t i (c ∷ l) = go (t i) (length_keep_at t (suc i) l)
    where
      go : (b : Bool) → length (keep_at t (suc i) l) ≤ length l → length (cond b (c ∷ keep_at t (suc i) l) (keep_at t (suc i) l)) ≤ suc (length l)
      go true h = omega arith
      go false h = omega arith

  -- the stretch's elements come first where nothing before it is picked
  pub keep_at_stretch : (t u : ℕ → Bool) (a k : ℕ) (l : List A) → a + k ≤ length l
      → ((j : ℕ) → j < a → t j ≡ false) → ((j : ℕ) → a ≤ j → j < a + k → t j ≡ true) → ((j : ℕ) → a + k ≤ j → t j ≡ u j) → ((j : ℕ) → j < a + k → u j ≡ false)
      → keep_at t 0 l ≡ take k (drop a l) ++ keep_at u 0 l
  keep_at_stretch t u a k l h below on above none =
      let la : length (take a l) ≡ a = length-take-le a l (omega arith) in
      let ld : length (drop a l) ≡ length l - a = length-drop a l in
      let lk : length (take k (drop a l)) ≡ k = length-take-le k (drop a l) (omega arith) in
      let P = take a l in
      let S = take k (drop a l) in
      let Q = drop k (drop a l) in
      let n = 0 + length (take a l) in
      let first : keep_at t 0 l ≡ S ++ keep_at t (n + length S) Q =
      ap (keep_at t 0) (thirds a k l) ∙ keep_at_append t 0 P (S ++ Q)
      ∙ ap₂ ◌++◌ (keep_at_none t 0 P (λ j p q. below j (omega arith)))
      (keep_at_append t n S Q ∙ ap (λ (m : List A). m ++ keep_at t (n + length S) Q) (keep_at_all t n S (λ j p q. on j (omega arith) (omega arith)))) in
      let second : keep_at u 0 l ≡ keep_at u (n + length S) Q =
      ap (keep_at u 0) (thirds a k l) ∙ keep_at_append u 0 P (S ++ Q)
      ∙ ap₂ ◌++◌ (keep_at_none u 0 P (λ j p q. none j (omega arith)))
      (keep_at_append u n S Q ∙ ap (λ (m : List A). m ++ keep_at u (n + length S) Q) (keep_at_none u n S (λ j p q. none j (omega arith)))) in
      first ∙ ap (λ (m : List A). S ++ m) (keep_at_ext t u (n + length S) Q (λ j p q. above j (omega arith)) ∙ sym second)

-- picking and changing each element commute
pub keep_at_map : {A B : Type 0} (f : A → B) (t : ℕ → Bool) (i : ℕ) (l : List A) → keep_at t i (map f l) ≡ map f (keep_at t i l)
keep_at_map f t i [] = refl
keep_at_map {A} {B} f t i (c ∷ l) = rw (keep_at_map f t (suc i) l) (go (t i))
  where
    go : (b : Bool) → cond b (f c ∷ map f (keep_at t (suc i) l)) (map f (keep_at t (suc i) l)) ≡ map f (cond b (c ∷ keep_at t (suc i) l) (keep_at t (suc i) l))
    go true = refl
    go false = refl
