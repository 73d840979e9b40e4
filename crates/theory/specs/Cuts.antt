-- Document 01, "Intervals and their cutting", on numbers: a parameter's interval, its first and its later cut, and what a block owes of it.
-- Reals are the numbers of any order; integers are ℤ. An interval of floats stands for one of these.
use Rattle.std.specs.Prelude.{◌≡◌, ◌⊎◌, Bool, true, false, cond, ◌&&◌, List, [], ◌∷◌, ◌++◌, map, ℤ, ◌<ℤ◌}
use Rattle.std.proofs.Math.IntN.{suc_ℤ}
use Rattle.std.specs.Int.Signed.{le_z}

-- an end of an interval
pub data End (N : Type 0) : Type 0 where
  minus_inf : End N
  finite : N → End N
  plus_inf : End N

-- an interval: its two ends
pub record Span (N : Type 0) : Type 0 where
  pub lower : End N
  pub upper : End N

-- the interval from one end to another
abbrev pub span : {N : Type 0} → End N → End N → Span N
span a b = record { lower = a; upper = b }

-- [a,a], where it is legal
unfoldable pub point_span : {N : Type 0} → End N → List (Span N)
point_span minus_inf = []
point_span (finite a) = span (finite a) (finite a) ∷ []
point_span plus_inf = []

-- the first cut: both ends as points, where they are finite, around the whole; of a real, repeats are kept
unfoldable pub first_pieces : {N : Type 0} → Span N → List (Span N)
first_pieces v = point_span v.lower ++ (v ∷ point_span v.upper)

-- a later cut: what lies up to c, c itself, and what lies from c on
unfoldable pub later_pieces : {N : Type 0} → N → Span N → List (Span N)
later_pieces c v = span v.lower (finite c) ∷ span (finite c) (finite c) ∷ span (finite c) v.upper ∷ []

module _ {N : Type 0} (Le : N → N → Type 0) where
  -- a number is not below a lower end
  unfoldable pub FromEnd : End N → N → Type 0
  FromEnd minus_inf x = Unit {0}
  FromEnd (finite a) x = Le a x
  FromEnd plus_inf x = ⊥

  -- a number is not above an upper end
  unfoldable pub UpToEnd : N → End N → Type 0
  UpToEnd x minus_inf = ⊥
  UpToEnd x (finite b) = Le x b
  UpToEnd x plus_inf = Unit {0}

  -- a number lies in an interval, its ends included: the ranges that setup is given, and what a block owes of a real parameter
  unfoldable pub InSpan : Span N → N → Type 0
  InSpan v x = FromEnd v.lower x × UpToEnd x v.upper

-- ---- integers

-- an integer is strictly over an end
unfoldable pub OverEnd : End ℤ → ℤ → Type 0
OverEnd minus_inf x = Unit {0}
OverEnd (finite a) x = a <ℤ x
OverEnd plus_inf x = ⊥

-- an integer is strictly under an end
unfoldable pub UnderEnd : ℤ → End ℤ → Type 0
UnderEnd x minus_inf = ⊥
UnderEnd x (finite b) = x <ℤ b
UnderEnd x plus_inf = Unit {0}

-- what a block owes of an integer parameter: [x,x] owes x, and [a,b] the integers strictly between, as its ends have been blocks of their own
-- since the first cut, or since the cut that made them
unfoldable pub Owes : Span ℤ → ℤ → Type 0
Owes v x = (v ≡ span (finite x) (finite x)) ⊎ (OverEnd v.lower x × UnderEnd x v.upper)

-- are two integers equal?
abbrev pub same_integer : ℤ → ℤ → Bool
same_integer a b = le_z a b && le_z b a

-- is it [a, next a]?
unfoldable pub is_step : (ℤ → ℤ) → End ℤ → End ℤ → Bool
is_step next minus_inf b = false
is_step next (finite a) minus_inf = false
is_step next (finite a) (finite b) = same_integer b (next a)
is_step next (finite a) plus_inf = false
is_step next plus_inf b = false

-- is the interval [a, a + 1]?
unfoldable pub has_width1 : Span ℤ → Bool
has_width1 v = is_step suc_ℤ v.lower v.upper

-- is it [a, a + 2]?
unfoldable pub has_width2 : Span ℤ → Bool
has_width2 v = is_step (λ a. suc_ℤ (suc_ℤ a)) v.lower v.upper

-- no integer lies inside two neighbours: such a piece is left out
unfoldable pub without_width1 : List (Span ℤ) → List (Span ℤ)
without_width1 [] = []
without_width1 (v ∷ l) = cond (has_width1 v) (without_width1 l) (v ∷ without_width1 l)

-- the end one further
unfoldable pub next_end : End ℤ → End ℤ
next_end minus_inf = minus_inf
next_end (finite a) = finite (suc_ℤ a)
next_end plus_inf = plus_inf

-- three integers in a row that could be cut further stand for the one in the middle
unfoldable pub middle_if_width2 : (Span ℤ → Bool) → Span ℤ → Span ℤ
middle_if_width2 divisible v = cond (has_width2 v && divisible v) (span (next_end v.lower) (next_end v.lower)) v

-- are two ends equal?
unfoldable pub same_end : End ℤ → End ℤ → Bool
same_end minus_inf minus_inf = true
same_end minus_inf (finite b) = false
same_end minus_inf plus_inf = false
same_end (finite a) minus_inf = false
same_end (finite a) (finite b) = same_integer a b
same_end (finite a) plus_inf = false
same_end plus_inf minus_inf = false
same_end plus_inf (finite b) = false
same_end plus_inf plus_inf = true

-- the pieces after v, each left out that equals the one before it
unfoldable pub unlike_before : Span ℤ → List (Span ℤ) → List (Span ℤ)
unlike_before v [] = []
unlike_before v (u ∷ l) = cond (same_end v.lower u.lower && same_end v.upper u.upper) (unlike_before v l) (u ∷ unlike_before u l)

-- the pieces, each unlike the one before it
unfoldable pub no_repeats : List (Span ℤ) → List (Span ℤ)
no_repeats [] = []
no_repeats (v ∷ l) = v ∷ unlike_before v l

-- the first cut of an integer parameter
unfoldable pub first_integers : Span ℤ → List (Span ℤ)
first_integers v = no_repeats (without_width1 (first_pieces v))

-- its later cut at c; divisible says which pieces could be cut on
unfoldable pub later_integers : (Span ℤ → Bool) → ℤ → Span ℤ → List (Span ℤ)
later_integers divisible c v = map (middle_if_width2 divisible) (without_width1 (later_pieces c v))
