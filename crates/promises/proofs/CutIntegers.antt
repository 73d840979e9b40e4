-- Cutting an integer parameter loses no integer. The first cut holds every integer of the range; a later one holds what its interval holds: a piece one
-- wide holds none and is dropped, a piece two wide holds its middle alone. Assumes nothing.
use mathlib.Core.Path.{◌≡◌, refl, sym, ap, ◌∙◌}
use mathlib.Core.Logic.{◌⊎◌, inl, inr, ⊎_elim}
use mathlib.Core.Bool.{Bool, true, false, not, cond, ◌&&◌, ◌||◌, false≢true, true≢false}
use mathlib.Core.List.{List, [], ◌∷◌, ◌++◌, map}
use Prim.Native.Nat.{ℕ}
use native.Mathlib.Omega.{arith}
use lib.Dec.{T}
use lib.IntN.{ℤ, pos, suc_ℤ, ◌+ℤ◌, +ℤ_one, +ℤ-suc_ℤ}
use lib.Signed.{le_z, ◌≤ℤ◌, ◌<ℤ◌, le_z_yes, lt_z_yes, <ℤ_irrefl}
use lib.Ieee.{Float, nan, inf, fin, le, lt, eq, ne}
use lib.Ieee.Scale.{finite}
use Rattle.base.proofs.Test.{≡→T, cases, by_test, and_left, and_right, and_both}
use Rattle.theory.specs.Cuts.{End, minus_inf, plus_inf, Span, span, InSpan, FromEnd, UpToEnd, OverEnd, UnderEnd, Owes, has_width1, has_width2}
use Rattle.theory.specs.Cuts.{without_width1, next_end, middle_if_width2, later_pieces, later_integers}
use Rattle.theory.specs.Cuts as Cut
use Rattle.theory.proofs.IntegerLaws.{compare, equal_or_less, less_trans, less_next, none_between, same_integer_lem}
use Rattle.base.specs.Lists.{Some}
use Rattle.base.proofs.ListLaws.{some_left, some_right}
use Rattle.theory.proofs.Theorems.{later_integer_loses_nothing}
use Rattle.theory.proofs.ListLaws.{some_of_map}
use Rattle.interval.specs.declared.Interval.{Interval}
use Rattle.interval.specs.Bounds.{InFormat, legal_interval}
use Rattle.interval.specs.Kinds.{midpoint_of, cut_point_of}
use Rattle.interval.specs.Cuts.{width_is, subdivisible, pair_of, span_of, three_at, narrowed, thinned, first_cut, later_cut}
use Rattle.interval.proofs.Legality.{legal_order, whole_ends}
use Rattle.interval.proofs.Sameness.{eq_swap}
use Rattle.interval.proofs.ProperPieces.{Proper}
use Rattle.interval.proofs.CutPoint.{Divides, half_divides, cut_good}
use Rattle.interval.proofs.Middles.{middle_half, middle_whole, middle_rounded}
use Rattle.interval.proofs.FirstCut.{first_whole, first_up_to, first_from, first_one, first_two, first_three}
use Rattle.interval.proofs.LaterCut.{three_proper, later_integer}
use Rattle.promises.specs.Mixes.{whole_of, end_by, integers}
use Rattle.promises.proofs.CutSpans.{finite_end, span_put, three_spans}
use Rattle.promises.proofs.CutWholes.{whole_put, Whole, whole_is, whole_lt, whole_le, width_ends, whole_width}

-- ---- what a piece holds

-- the ends of an integer interval that are numbers are whole
low_whole : (v : Interval) → InFormat v → legal_interval v true ≡ true → T (finite v.lower) → Whole v.lower
low_whole v f h g = whole_is v.lower f.0 g (whole_ends v true h refl).0

high_whole : (v : Interval) → InFormat v → legal_interval v true ≡ true → T (finite v.upper) → Whole v.upper
high_whole v f h g = whole_is v.upper f.1 g (whole_ends v true h refl).1

-- so one whose width is k goes from some integer to the k-th after it
pub spans_width : (k : ℕ) (v : Interval) → InFormat v → legal_interval v true ≡ true → width_is k v ≡ true
    → integers v ≡ span (Cut.finite (whole_of v.lower)) (Cut.finite (whole_of v.lower +ℤ pos k))
spans_width k v f h w =
    let e = width_ends k v w in
    let d = whole_width k v.lower v.upper (low_whole v f h e.0) (high_whole v f h e.1) (legal_order v true h) e.2 in
    ap (λ (z : End ℤ). span z (end_by whole_of v.upper)) (finite_end whole_of v.lower e.0)
    ∙ ap (λ (z : End ℤ). span (Cut.finite (whole_of v.lower)) z) (finite_end whole_of v.upper e.1 ∙ ap Cut.finite d)

-- a point's span
pub spans_point : (c : Float) → T (finite c) → integers (span_of c c) ≡ span (Cut.finite (whole_of c)) (Cut.finite (whole_of c))
spans_point c g = span_put whole_of whole_put (pair_of c c) ∙ ap (λ (z : End ℤ). span z z) (finite_end whole_of c g)

two_further : (a : ℤ) → a +ℤ pos 2 ≡ suc_ℤ (suc_ℤ a)
two_further a = +ℤ-suc_ℤ a (pos 1) ∙ ap suc_ℤ (+ℤ_one a)

-- [a, a + 1] holds nothing
one_holds_none : (a i : ℤ) → ¬ Owes (span (Cut.finite a) (Cut.finite (a +ℤ pos 1))) i
unfolding Owes OverEnd UnderEnd
one_holds_none a i (inl e) =
    let l : a ≡ i = ends_low e in
    let u : a +ℤ pos 1 ≡ i = ends_high e in
    <ℤ_irrefl (rw (sym (+ℤ_one a) ∙ u ∙ sym l) at (less_next a))
  where
    ends_low : span (Cut.finite a) (Cut.finite (a +ℤ pos 1)) ≡ span (Cut.finite i) (Cut.finite i) → a ≡ i
    ends_low e = let f : Cut.finite a ≡ Cut.finite i = ap (λ (v : Span ℤ). v.lower) e in cc

    ends_high : span (Cut.finite a) (Cut.finite (a +ℤ pos 1)) ≡ span (Cut.finite i) (Cut.finite i) → a +ℤ pos 1 ≡ i
    ends_high e = let f : Cut.finite (a +ℤ pos 1) ≡ Cut.finite i = ap (λ (v : Span ℤ). v.upper) e in cc
one_holds_none a i (inr h) = none_between a i h.0 (rw (+ℤ_one a) at h.1)

-- [a, a + 2] holds a + 1 alone
two_between : (a i : ℤ) → a <ℤ i → i <ℤ (a +ℤ pos 2) → i ≡ suc_ℤ a
two_between a i l u = ⊎_elim (λ k. absurd (none_between a i l k)) (⊎_elim (λ e. e) (λ k. absurd (none_between (suc_ℤ a) i k (rw (two_further a) at u)))) (compare i (suc_ℤ a))

two_holds : (a i : ℤ) → Owes (span (Cut.finite a) (Cut.finite (a +ℤ pos 2))) i → i ≡ suc_ℤ a
unfolding Owes OverEnd UnderEnd
two_holds a i (inl e) =
    let l : a ≡ i = ends_low e in
    let u : a +ℤ pos 2 ≡ i = ends_high e in
    absurd (<ℤ_irrefl (rw (sym (two_further a) ∙ u ∙ sym l) at (less_trans (less_next a) (less_next (suc_ℤ a)))))
  where
    ends_low : span (Cut.finite a) (Cut.finite (a +ℤ pos 2)) ≡ span (Cut.finite i) (Cut.finite i) → a ≡ i
    ends_low e = let f : Cut.finite a ≡ Cut.finite i = ap (λ (v : Span ℤ). v.lower) e in cc

    ends_high : span (Cut.finite a) (Cut.finite (a +ℤ pos 2)) ≡ span (Cut.finite i) (Cut.finite i) → a +ℤ pos 2 ≡ i
    ends_high e = let f : Cut.finite (a +ℤ pos 2) ≡ Cut.finite i = ap (λ (v : Span ℤ). v.upper) e in cc
two_holds a i (inr h) = two_between a i h.0 h.1

-- strictly between, where the order holds and the two are not equal
strictly : (x y : Float) → le x y ≡ true → eq x y ≡ false → lt x y ≡ true
unfolding le
strictly x y h e = go (lt x y) (rw e at h)
  where
    go : (t : Bool) → t || false ≡ true → t ≡ true
    go true h = refl
    go false h = h

not_equal : (x y : Float) → ne x y ≡ true → eq x y ≡ false
unfolding ne
not_equal x y h = go (eq x y) h
  where
    go : (t : Bool) → not t ≡ true → t ≡ false
    go true h = sym h
    go false h = refl

-- the midpoint of a piece that is two wide and subdivisible is the integer in its middle
module _ (v : Interval) (f : InFormat v) (h : legal_interval v true ≡ true) (w : width_is 2 v ≡ true) (s : subdivisible v true ≡ true) where
  abbrev mid : Float
  mid = midpoint_of v

  low_number : T (finite v.lower)
  low_number = (width_ends 2 v w).0

  high_number : T (finite v.upper)
  high_number = (width_ends 2 v w).1

  mid_divides : Divides v.lower v.upper false mid
  mid_divides =
      rw (middle_half v low_number high_number) (half_divides v.lower v.upper f.0 f.1 low_number high_number (≡→T (legal_order v true h)))

  mid_whole : Whole mid
  mid_whole = whole_is mid mid_divides.format mid_divides.number (middle_whole v f h w)

  apart : (ne v.lower mid ≡ true) × (ne v.upper mid ≡ true)
  unfolding subdivisible
  apart =
      let e : ne v.lower mid && ne v.upper mid ≡ true = rw (middle_rounded v f h w) at s in
      (and_left (ne v.lower mid) (ne v.upper mid) e, and_right (ne v.lower mid) (ne v.upper mid) e)

  over_low : whole_of v.lower <ℤ whole_of mid
  over_low =
      lt_z_yes (≡→T (sym (whole_lt v.lower mid (low_whole v f h low_number) mid_whole)
      ∙ strictly v.lower mid mid_divides.low (not_equal v.lower mid apart.0)))

  under_high : whole_of mid <ℤ whole_of v.upper
  under_high =
      lt_z_yes (≡→T (sym (whole_lt mid v.upper mid_whole (high_whole v f h high_number))
      ∙ strictly mid v.upper mid_divides.high (eq_swap mid v.upper ∙ not_equal v.upper mid apart.1)))

  middle_is : whole_of mid ≡ suc_ℤ (whole_of v.lower)
  middle_is =
      two_between (whole_of v.lower) (whole_of mid) over_low
      (rw (whole_width 2 v.lower v.upper (low_whole v f h low_number) (high_whole v f h high_number) (legal_order v true h) (width_ends 2 v w).2) at under_high)

  middle_holds : (i : ℤ) → Owes (integers v) i → Owes (integers (span_of mid mid)) i
  middle_holds i o =
      let e : i ≡ whole_of mid = two_holds (whole_of v.lower) i (rw (spans_width 2 v f h w) at o) ∙ sym middle_is in
      rw (spans_point mid mid_divides.number, ← e) (unfold Owes in inl refl)

-- ---- a later cut

-- what is left of a piece holds what the piece holds
thinned_holds : (v : Interval) → Proper true v → (i : ℤ) → Owes (integers v) i → Some (λ u. Owes (integers u) i) (thinned v)
unfolding thinned narrowed Some
thinned_holds v p i o =
    by_test (λ l. Some (λ u. Owes (integers u) i) l) (width_is 1 v) [] _
    (λ w. one_holds_none (whole_of v.lower) i (rw (spans_width 1 v p.format p.legal w) at o))
    (λ w. inl (by_test (λ u. Owes (integers u) i) (width_is 2 v && subdivisible v true) _ v
    (λ e. middle_holds v p.format p.legal (and_left (width_is 2 v) (subdivisible v true) e) (and_right (width_is 2 v) (subdivisible v true) e) i o)
    (λ e. o)))

-- `theory`'s pieces before any is dropped: of those that it keeps, where none is said to be divisible, each is one of them
kept_piece : (P : Span ℤ → Type 0) (l : List (Span ℤ)) → Some P (map (middle_if_width2 (λ u. false)) (without_width1 l)) → Some P l
unfolding Some without_width1
kept_piece P [] h = h
kept_piece P (u ∷ l) h = go (has_width1 u) h (kept_piece P l)
  where
    same : (k : Bool) → P (cond (k && false) (span (next_end u.lower) (next_end u.lower)) u) → P u
    same true h = h
    same false h = h

    go : (k : Bool) → Some P (map (middle_if_width2 (λ u. false)) (cond k (without_width1 l) (u ∷ without_width1 l)))
        → (Some P (map (middle_if_width2 (λ u. false)) (without_width1 l)) → Some P l) → P u ⊎ Some P l
    go true h r = inr (r h)
    go false (inl h) r = inl (same (has_width2 u) (unfold middle_if_width2 in h))
    go false (inr h) r = inr (r h)

-- a whole number over an end, and under one
over_end : (a c : Float) → T (finite c) → le a c ≡ true → (T (finite a) → Whole a) → Whole c → FromEnd (λ i j. i ≤ℤ j) (end_by whole_of a) (whole_of c)
unfolding FromEnd end_by le lt eq
over_end nan c g l k w = absurd (false≢true l)
over_end (inf true) c g l k w = tt
over_end (inf false) nan g l k w = absurd g
over_end (inf false) (inf s) g l k w = absurd g
over_end (inf false) (fin s m e) g l k w = absurd (false≢true l)
over_end (fin s m e) c g l k w = le_z_yes (≡→T (sym (whole_le (fin s m e) c (k tt) w) ∙ l))

under_end : (c b : Float) → T (finite c) → le c b ≡ true → (T (finite b) → Whole b) → Whole c → UpToEnd (λ i j. i ≤ℤ j) (whole_of c) (end_by whole_of b)
unfolding UpToEnd end_by le lt eq
under_end nan b g l k w = absurd g
under_end (inf s) b g l k w = absurd g
under_end (fin s m e) nan g l k w = absurd (false≢true l)
under_end (fin s m e) (inf true) g l k w = absurd (false≢true l)
under_end (fin s m e) (inf false) g l k w = tt
under_end (fin s m e) (fin t n d) g l k w = le_z_yes (≡→T (sym (whole_le (fin s m e) (fin t n d) w (k tt)) ∙ l))

-- the cut point is an integer of the interval
cut_inside : (v : Interval) → InFormat v → legal_interval v true ≡ true → InSpan (λ a b. a ≤ℤ b) (integers v) (whole_of (cut_point_of v true))
unfolding InSpan
cut_inside v f h =
    let c = cut_point_of v true in
    let d = cut_good v true f h in
    let w = whole_is c d.format d.number (d.whole refl) in
    (over_end v.lower c d.number d.low (low_whole v f h) w, under_end c v.upper d.number d.high (high_whole v f h) w)

-- what one of the three pieces holds, what is left of them holds
three_hold : (l p r : Interval) (i : ℤ) → Proper true l → Proper true r → Some (λ u. Owes (integers u) i) (l ∷ p ∷ r ∷ [])
    → Some (λ u. Owes (integers u) i) (thinned l ++ (p ∷ thinned r))
unfolding Some
three_hold l p r i a b (inl k) = some_left (λ u. Owes (integers u) i) (thinned l) (p ∷ thinned r) (thinned_holds l a i k)
three_hold l p r i a b (inr (inl k)) = some_right (λ u. Owes (integers u) i) (thinned l) (p ∷ thinned r) (inl k)
three_hold l p r i a b (inr (inr (inl k))) = some_right (λ u. Owes (integers u) i) (thinned l) (p ∷ thinned r) (inr (thinned_holds r b i k))
three_hold l p r i a b (inr (inr (inr k))) = absurd k

pub later_integer_holds : (v : Interval) → InFormat v → legal_interval v true ≡ true → (i : ℤ) → Owes (integers v) i
    → Some (λ u. Owes (integers u) i) (later_cut v true)
later_integer_holds v f h i o =
    let c = cut_point_of v true in
    let t = three_proper v true f h in
    rw (later_integer v)
    (three_hold (span_of v.lower c) (span_of c c) (span_of c v.upper) i t.left t.right
    (some_of_map (λ u. Owes u i) integers (three_at v c)
    (rw (three_spans whole_of whole_put v c (cut_good v true f h).number)
    (kept_piece (λ u. Owes u i) (later_pieces (whole_of c) (integers v))
    (unfold later_integers in later_integer_loses_nothing (λ u. false) (whole_of c) (integers v) i (cut_inside v f h) o)))))

-- ---- the first cut

-- an integer of an interval is one of its ends, or lies strictly between
where_inside : (a b : End ℤ) (i : ℤ) → FromEnd (λ j k. j ≤ℤ k) a i → UpToEnd (λ j k. j ≤ℤ k) i b
    → (a ≡ Cut.finite i) ⊎ ((b ≡ Cut.finite i) ⊎ (OverEnd a i × UnderEnd i b))
unfolding FromEnd UpToEnd OverEnd UnderEnd
where_inside a b i l u = go (low a l) (high b u)
  where
    low : (a : End ℤ) → FromEnd (λ j k. j ≤ℤ k) a i → (a ≡ Cut.finite i) ⊎ OverEnd a i
    low minus_inf l = inr (tt)
    low (Cut.finite a) l = ⊎_elim (λ e. inl (ap Cut.finite e)) (λ k. inr (k)) (equal_or_less a i (l))
    low plus_inf l = absurd (l)

    high : (b : End ℤ) → UpToEnd (λ j k. j ≤ℤ k) i b → (b ≡ Cut.finite i) ⊎ UnderEnd i b
    high minus_inf u = absurd (u)
    high (Cut.finite b) u = ⊎_elim (λ e. inl (ap Cut.finite (sym e))) (λ k. inr (k)) (equal_or_less i b (u))
    high plus_inf u = inr (tt)

    go : (a ≡ Cut.finite i) ⊎ OverEnd a i → (b ≡ Cut.finite i) ⊎ UnderEnd i b → (a ≡ Cut.finite i) ⊎ ((b ≡ Cut.finite i) ⊎ (OverEnd a i × UnderEnd i b))
    go (inl e) k = inl e
    go (inr l) (inl e) = inr (inl e)
    go (inr l) (inr u) = inr (inr (l, u))

-- only a number ends at an integer
ends_number : (c : Float) (i : ℤ) → end_by whole_of c ≡ Cut.finite i → finite c ≡ true
unfolding end_by
ends_number nan i e = let z : ◌≡◌ {A = ℕ} 0 1 = cc in absurd (omega arith)
ends_number (inf true) i e = let z : ◌≡◌ {A = ℕ} 0 1 = cc in absurd (omega arith)
ends_number (inf false) i e = let z : ◌≡◌ {A = ℕ} 0 1 = cc in absurd (omega arith)
ends_number (fin s m d) i e = refl

-- the point at an end holds that end
point_holds : (c : Float) (i : ℤ) → end_by whole_of c ≡ Cut.finite i → Owes (integers (span_of c c)) i
unfolding Owes
point_holds c i e = inl (span_put whole_of whole_put (pair_of c c) ∙ ap (λ (z : End ℤ). span z z) e)

-- bounds that compare equal end at one integer
equal_ends : (x y : Float) → Whole x → Whole y → eq x y ≡ true → whole_of x ≡ whole_of y
unfolding le
equal_ends x y a b e =
    same_integer_lem (whole_of x) (whole_of y)
    (≡→T (and_both (le_z (whole_of x) (whole_of y)) (le_z (whole_of y) (whole_of x))
    (sym (whole_le x y a b) ∙ either (lt x y) (eq x y) e) (sym (whole_le y x b a) ∙ either (lt y x) (eq y x) (eq_swap y x ∙ e))))
  where
    either : (s t : Bool) → t ≡ true → s || t ≡ true
    either true t h = refl
    either false t h = h

pub first_integer_holds : (v : Interval) → InFormat v → legal_interval v true ≡ true → (i : ℤ) → InSpan (λ j k. j ≤ℤ k) (integers v) i
    → Some (λ u. Owes (integers u) i) (first_cut v true)
unfolding InSpan OverEnd UnderEnd
first_integer_holds v f h i o =
    let a = v.lower in
    let b = v.upper in
    let at = where_inside (end_by whole_of a) (end_by whole_of b) i o.0 o.1 in
    cases (finite a)
    (λ g. cases (finite b) (λ k. both g k at) (λ k. rw (first_from v true h g k) (from_low k at)))
    (λ g. cases (finite b) (λ k. rw (first_up_to v true h g k) (up_high g at)) (λ k. rw (first_whole v true h g k) (whole_line g k at)))
  where
    AtEndOrBetween : Type 0
    AtEndOrBetween = (end_by whole_of v.lower ≡ Cut.finite i) ⊎ ((end_by whole_of v.upper ≡ Cut.finite i) ⊎ (OverEnd (end_by whole_of v.lower) i × UnderEnd i (end_by whole_of v.upper)))

    Held : List Interval → Type 0
    Held l = Some (λ u. Owes (integers u) i) l

    inner : OverEnd (end_by whole_of v.lower) i × UnderEnd i (end_by whole_of v.upper) → Owes (integers (span_of v.lower v.upper)) i
    inner k = rw (span_put whole_of whole_put v) (unfold Owes in inr k)

    not_low : {P : Type 0} → finite v.lower ≡ false → end_by whole_of v.lower ≡ Cut.finite i → P
    not_low g e = absurd (true≢false (sym (ends_number v.lower i e) ∙ g))

    not_high : {P : Type 0} → finite v.upper ≡ false → end_by whole_of v.upper ≡ Cut.finite i → P
    not_high g e = absurd (true≢false (sym (ends_number v.upper i e) ∙ g))

    whole_line : finite v.lower ≡ false → finite v.upper ≡ false → AtEndOrBetween → Held (span_of v.lower v.upper ∷ [])
    whole_line g k (inl e) = not_low g e
    whole_line g k (inr (inl e)) = not_high k e
    whole_line g k (inr (inr w)) = unfold Some in inl (inner w)

    up_high : finite v.lower ≡ false → AtEndOrBetween → Held (span_of v.lower v.upper ∷ span_of v.upper v.upper ∷ [])
    up_high g (inl e) = not_low g e
    up_high g (inr (inl e)) = unfold Some in inr (inl (point_holds v.upper i e))
    up_high g (inr (inr w)) = unfold Some in inl (inner w)

    from_low : finite v.upper ≡ false → AtEndOrBetween → Held (span_of v.lower v.lower ∷ span_of v.lower v.upper ∷ [])
    from_low k (inl e) = unfold Some in inl (point_holds v.lower i e)
    from_low k (inr (inl e)) = not_high k e
    from_low k (inr (inr w)) = unfold Some in inr (inl (inner w))

    one : finite v.lower ≡ true → finite v.upper ≡ true → whole_of v.lower ≡ whole_of v.upper → AtEndOrBetween
        → Held (span_of v.lower v.lower ∷ [])
    one g k s (inl e) = unfold Some in inl (point_holds v.lower i e)
    one g k s (inr (inl e)) =
        unfold Some in inl (point_holds v.lower i (finite_end whole_of v.lower (≡→T g) ∙ ap Cut.finite s ∙ sym (finite_end whole_of v.upper (≡→T k)) ∙ e))
    one g k s (inr (inr w)) =
        let l : OverEnd (Cut.finite (whole_of v.lower)) i = rw (finite_end whole_of v.lower (≡→T g)) at w.0 in
        let u : UnderEnd i (Cut.finite (whole_of v.lower)) = rw (finite_end whole_of v.upper (≡→T k), ← s) at w.1 in
        absurd (<ℤ_irrefl (less_trans l u))

    two : width_is 1 v ≡ true → AtEndOrBetween → Held (span_of v.lower v.lower ∷ span_of v.upper v.upper ∷ [])
    two s (inl e) = unfold Some in inl (point_holds v.lower i e)
    two s (inr (inl e)) = unfold Some in inr (inl (point_holds v.upper i e))
    two s (inr (inr w)) =
        let k : Owes (integers v) i = unfold Owes in inr w in
        absurd (one_holds_none (whole_of v.lower) i (rw (spans_width 1 v f h s) at k))

    three : AtEndOrBetween → Held (span_of v.lower v.lower ∷ span_of v.lower v.upper ∷ span_of v.upper v.upper ∷ [])
    three (inl e) = unfold Some in inl (point_holds v.lower i e)
    three (inr (inl e)) = unfold Some in inr (inr (inl (point_holds v.upper i e)))
    three (inr (inr w)) = unfold Some in inr (inl (inner w))

    both : finite v.lower ≡ true → finite v.upper ≡ true → AtEndOrBetween → Held (first_cut v true)
    both g k at =
        cases (eq v.lower v.upper)
        (λ e. rw (first_one v f h g k e) (one g k (equal_ends v.lower v.upper (low_whole v f h (≡→T g)) (high_whole v f h (≡→T k)) e) at))
        (λ e. cases (width_is 1 v) (λ w. rw (first_two v f h g k w) (two w at)) (λ w. rw (first_three v h g k e w) (three at)))
