-- std's test of a number, and the kinds of interval by it: what each kind says of the bounds.
-- Assumes nothing.
use Rattle.std.proofs.Common.{◌≡◌, Bool, true, false, cond, ◌&&◌, T, sym, refl, ap, ◌∙◌}
use lib.Ieee.{Float, nan, inf, fin, neg, lt}
use lib.Ieee.Scale.{finite}
use Rattle.std.specs.Float.{float_is_finite}
use Rattle.base.proofs.Test.{≡→T, and_both}
use Rattle.interval.specs.declared.kind.Kind.TheVariants.{Whole, UpTo, From, Between}
use Rattle.interval.specs.Kinds.{kind_of}
use Rattle.interval.specs.KindsComputed.{finite_ends}

-- std's test of a number is this crate's
pub finite_is : (x : Float) → float_is_finite x ≡ finite x
unfolding float_is_finite
finite_is nan = refl
finite_is (inf s) = refl
finite_is (fin s m e) = refl

-- and so is the test by order, -inf < x < +inf
pub finite_test : (x i j : Float) → i ≡ inf false → j ≡ inf false → lt (neg i) x && lt x j ≡ finite x
finite_test x i j p q = ap (λ (z : Float). lt (neg z) x && lt x j) p ∙ ap (λ (z : Float). lt (neg (inf false)) x && lt x z) q ∙ go x
  where
    go : (x : Float) → lt (neg (inf false)) x && lt x (inf false) ≡ finite x
    go nan = unfold lt neg in refl
    go (inf true) = unfold lt neg in refl
    go (inf false) = unfold lt neg in refl
    go (fin s m e) = unfold lt neg in refl

-- the same by std's names of both infinities
pub finite_order : (x : Float) → lt (inf true) x && lt x (inf false) ≡ finite x
finite_order nan = unfold lt in refl
finite_order (inf true) = unfold lt in refl
finite_order (inf false) = unfold lt in refl
finite_order (fin s m e) = unfold lt in refl

-- what a kind carries is finite
pub kind_ends : (a b : Float) → T (finite_ends (kind_of a b))
unfolding kind_of
kind_ends a b = go (finite a) (finite b) refl refl
  where
    go : (s t : Bool) → finite a ≡ s → finite b ≡ t → T (finite_ends (cond s (cond t (Between a b) (From a)) (cond t (UpTo b) Whole)))
    go true true p q = ≡→T (and_both (finite a) (finite b) p q)
    go true false p q = ≡→T p
    go false true p q = ≡→T q
    go false false p q = tt

-- the kind, by the two tests
pub kind_by : (a b : Float) (s t : Bool) → finite a ≡ s → finite b ≡ t → cond s (cond t (Between a b) (From a)) (cond t (UpTo b) Whole) ≡ kind_of a b
unfolding kind_of
kind_by a b s t p q = sym (ap (λ (z : Bool). cond z (cond (finite b) (Between a b) (From a)) (cond (finite b) (UpTo b) Whole)) p ∙ ap (λ (z : Bool). cond s (cond z (Between a b) (From a)) (cond z (UpTo b) Whole)) q)

-- ---- what a kind says of the bounds
pub kind_whole : (a b : Float) → kind_of a b ≡ Whole → (finite a ≡ false) × (finite b ≡ false)
unfolding kind_of
kind_whole a b = go (finite a) (finite b)
  where
    go : (s t : Bool) → cond s (cond t (Between a b) (From a)) (cond t (UpTo b) Whole) ≡ Whole → (s ≡ false) × (t ≡ false)
    go true true e = let z : true ≡ false = cc in (z, z)
    go true false e = let z : true ≡ false = cc in (z, refl)
    go false true e = let z : true ≡ false = cc in (refl, z)
    go false false e = (refl, refl)

pub kind_up_to : (a b v : Float) → kind_of a b ≡ UpTo v → (finite a ≡ false) × (finite b ≡ true) × (b ≡ v)
unfolding kind_of
kind_up_to a b v = go (finite a) (finite b)
  where
    go : (s t : Bool) → cond s (cond t (Between a b) (From a)) (cond t (UpTo b) Whole) ≡ UpTo v → (s ≡ false) × (t ≡ true) × (b ≡ v)
    go true true e = (cc, refl, cc)
    go true false e = (cc, cc, cc)
    go false true e = (refl, refl, cc)
    go false false e = (refl, cc, cc)

pub kind_from : (a b v : Float) → kind_of a b ≡ From v → (finite a ≡ true) × (finite b ≡ false) × (a ≡ v)
unfolding kind_of
kind_from a b v = go (finite a) (finite b)
  where
    go : (s t : Bool) → cond s (cond t (Between a b) (From a)) (cond t (UpTo b) Whole) ≡ From v → (s ≡ true) × (t ≡ false) × (a ≡ v)
    go true true e = (refl, cc, cc)
    go true false e = (refl, refl, cc)
    go false true e = (cc, cc, cc)
    go false false e = (cc, refl, cc)

pub kind_between : (a b u v : Float) → kind_of a b ≡ Between u v → (finite a ≡ true) × (finite b ≡ true) × (a ≡ u) × (b ≡ v)
unfolding kind_of
kind_between a b u v = go (finite a) (finite b)
  where
    go : (s t : Bool) → cond s (cond t (Between a b) (From a)) (cond t (UpTo b) Whole) ≡ Between u v → (s ≡ true) × (t ≡ true) × (a ≡ u) × (b ≡ v)
    go true true e = (refl, refl, cc, cc)
    go true false e = (refl, cc, cc, cc)
    go false true e = (cc, refl, cc, cc)
    go false false e = (cc, cc, cc, cc)
