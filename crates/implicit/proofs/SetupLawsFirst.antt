-- The list of the first blocks: it is the product, block by block, of the pieces of each parameter. Assumes nothing.
use mathlib.Core.Path.{◌≡◌, refl, sym, ap, ap₂, ◌∙◌}
use mathlib.Core.Bool.{Bool, true, false, cond, not}
use mathlib.Core.List.{List, [], ◌∷◌, ◌++◌, map}
use Prim.Native.Nat.{ℕ, zero, suc, ◌+◌, ◌-◌, ◌*◌, ◌/◌, ◌%◌, ◌≤◌, ◌<◌}
use native.Mathlib.Omega.{arith}
use native.Mathlib.Nat.{zero-mul, suc-mul, one-mul, mod-eq_of_lt, div-eq_of_lt, add-mul-div_right, add-mul-mod_self_right, div-lt_iff_lt-mul}
use native.Mathlib.Decide.{dec_lt}
use lib.ListN.{length, get_or, length-append, length-map, get_or-append}
use lib.Seq.{get_or-append-add}
use borrow.Author.Tests.{leb-true}
use Rattle.base.proofs.Test.{by_test, and_left, and_right}
use Rattle.base.specs.Lists.{Every}
use Rattle.base.proofs.ListLaws.{every_append, every_also}
use Rattle.interval.specs.declared.Interval.{Interval}
use Rattle.std.specs.Prelude.{Result}
use Rattle.refusal.specs.declared.Refusal.{Refusal}
use Rattle.interval.specs.declared.Pieces.{Pieces}
use Rattle.interval.specs.Bounds.{legal_interval, put_interval, same_interval}
use Rattle.interval.specs.Cuts.{width_is, keep_if, unlike_next, deduped, legal_three, span_of, first_cut}
use Rattle.interval.specs.Answers.{pieces_of}
use Rattle.queue.specs.declared.Block.{Block}
use Rattle.queue.specs.declared.directions.Direction.{Direction}
use Rattle.queue.specs.declared.directions.Direction.TheVariants as D
use Rattle.queue.specs.Directions.{in_use}
use Rattle.queue.specs.Block.{whole_line, is_integer, parameter_of, with_parameter, as_queued_at}
use Rattle.queue.specs.Code.{legal_if_used, parameters_legal}
use Rattle.interval.proofs.ProperPieces.{pieces_back}
use Rattle.queue.proofs.QueueableLaws.{each_legal}
use Rattle.decide.specs.declared.Chosen.{Chosen}
use Rattle.decide.specs.Damage.{legal_set}
use Rattle.implicit.specs.declared.state.Ranges.{Ranges}
use Rattle.implicit.specs.declared.first.Product.{Product}
use Rattle.implicit.specs.Setup.{root_block, each_cut_first, cut_first_in, first_blocks, ranges_legal}
use Rattle.implicit.specs.SetupComputed.{pieces_kept, product_of, piece_count, piece_at, product_count, product_at}
use Rattle.implicit.proofs.SetupLawsProduct.{some}

-- EACH BLOCK WITH EACH PIECE

-- every block of a list, with each of these pieces for a parameter
unfoldable pub each_with : Direction → List Interval → List Block → List Block
each_with d ps [] = []
each_with d ps (b ∷ l) = map (with_parameter b d) ps ++ each_with d ps l

pub length_each : (d : Direction) (ps : List Interval) (l : List Block) → length (each_with d ps l) ≡ length l * length ps
unfolding each_with
length_each d ps [] = sym (zero-mul (length ps))
length_each d ps (b ∷ l) =
    omega
    (arith, length-append (map (with_parameter b d) ps) (each_with d ps l), length-map ps (with_parameter b d), length_each d ps l, suc-mul (length l) (length ps))

-- the i-th of them
at_map : (f : Interval → Block) (w : Interval) (z : Block) (ps : List Interval) (i : ℕ) → i < length ps → get_or (map f ps) i z ≡ f (get_or ps i w)
at_map f w z [] i h = absurd (omega arith)
at_map f w z (p ∷ ps) zero h = refl
at_map f w z (p ∷ ps) (suc i) h = at_map f w z ps i (omega arith)

-- behind the first block's
at_later : (d : Direction) (ps : List Interval) (w : Interval) (z b : Block) (l : List Block) (i j : ℕ) → 0 < length ps → i ≡ j + 1 * length ps
    → get_or (each_with d ps l) j z ≡ with_parameter (get_or l (j / length ps) z) d (get_or ps (j % length ps) w)
    → get_or (map (with_parameter b d) ps ++ each_with d ps l) i z ≡ with_parameter (get_or (b ∷ l) (i / length ps) z) d (get_or ps (i % length ps) w)
at_later d ps w z b l i j h e k =
    let f : List Block = map (with_parameter b d) ps in
    let q : i / length ps ≡ suc (j / length ps) = ap (λ (n : ℕ). n / length ps) e ∙ add-mul-div_right j 1 h ∙ omega arith in
    let r : i % length ps ≡ j % length ps = ap (λ (n : ℕ). n % length ps) e ∙ add-mul-mod_self_right j 1 (length ps) in
    let o : i ≡ length f + j = omega (arith, length-map ps (with_parameter b d), one-mul (length ps)) in
    ap (λ (n : ℕ). get_or (f ++ each_with d ps l) n z) o ∙ get_or-append-add f (each_with d ps l) j z ∙ k ∙ sym (rw (q, r))

pub at_each : (d : Direction) (ps : List Interval) (w : Interval) (z : Block) (l : List Block) (i : ℕ) → 0 < length ps → i < length l * length ps
    → get_or (each_with d ps l) i z ≡ with_parameter (get_or l (i / length ps) z) d (get_or ps (i % length ps) w)
unfolding each_with
at_each d ps w z [] i h k = absurd (omega (arith, k, zero-mul (length ps)))
at_each d ps w z (b ∷ l) i h k = elim (dec_lt i (length ps)) [
  | yes m ↦
      get_or-append (map (with_parameter b d) ps) (each_with d ps l) z i (omega (arith, length-map ps (with_parameter b d)))
      ∙ at_map (with_parameter b d) w z ps i m ∙ sym (rw (div-eq_of_lt m, mod-eq_of_lt m))
  | no m ↦
      at_later d ps w z b l i (i - length ps) h (omega (arith, m, one-mul (length ps)))
      (at_each d ps w z l (i - length ps) h (omega (arith, k, m, suc-mul (length l) (length ps))))
]

-- what holds of every block of a list and is kept by every piece holds of each with each
every_map : (Q : Block → Type 0) (S : Interval → Type 0) (f : Interval → Block) (ps : List Interval)
    → ((p : Interval) → S p → Q (f p)) → Every S ps → Every Q (map f ps)
every_map Q S f [] g s = tt
every_map Q S f (p ∷ ps) g s = (g p s.0, every_map Q S f ps g s.1)

pub every_each : (P Q : Block → Type 0) (S : Interval → Type 0) (d : Direction) (ps : List Interval) (l : List Block)
    → ((b : Block) (p : Interval) → P b → S p → Q (with_parameter b d p))
    → Every S ps → Every P l → Every Q (each_with d ps l)
unfolding each_with
every_each P Q S d ps [] f s h = tt
every_each P Q S d ps (b ∷ l) f s h =
    every_append Q (map (with_parameter b d) ps) (each_with d ps l) (every_map Q S (with_parameter b d) ps (λ p. f b p h.0) s)
    (every_each P Q S d ps l f s h.1)

-- of one of them
pub every_at : (P : Block → Type 0) (z : Block) (l : List Block) (i : ℕ) → Every P l → i < length l → P (get_or l i z)
every_at P z [] i h k = absurd (omega arith)
every_at P z (b ∷ l) zero h k = h.0
every_at P z (b ∷ l) (suc i) h k = every_at P z l i h.1 (omega arith)

-- THE FIRST CUT

-- three pieces are the most, on every interval
keep_most : (f : Interval → Bool) (l : List Interval) → length (keep_if f l) ≤ length l
unfolding keep_if
keep_most f [] = omega arith
keep_most f (p ∷ l) =
    by_test (λ m. length m ≤ suc (length l)) (f p) (p ∷ keep_if f l) (keep_if f l) (λ e. omega (arith, keep_most f l)) (λ e. omega (arith, keep_most f l))

unlike_most : (p : Interval) (l : List Interval) → length (unlike_next p l) ≤ length l
unfolding unlike_next
unlike_most p [] = omega arith
unlike_most p (q ∷ l) =
    by_test (λ m. length m ≤ suc (length l)) (same_interval p q) (unlike_next p l) (q ∷ unlike_next q l) (λ e. omega (arith, unlike_most p l))
    (λ e. omega (arith, unlike_most q l))

repeats_most : (l : List Interval) → length (deduped l) ≤ length l
repeats_most [] = omega arith
repeats_most (p ∷ l) = omega (arith, unlike_most p l)

three_most : (x : Interval) → length (legal_three x) ≤ 3
unfolding legal_three
three_most x = keep_most (λ p. legal_interval p false) (span_of x.lower x.lower ∷ span_of x.lower x.upper ∷ span_of x.upper x.upper ∷ [])

first_most : (x : Interval) (integer : Bool) → length (first_cut x integer) ≤ 3
unfolding first_cut
first_most x true =
    let l = keep_if (λ p. not (width_is 1 p)) (legal_three x) in
    omega (arith, repeats_most l, keep_most (λ p. not (width_is 1 p)) (legal_three x), three_most x)
first_most x false = three_most x

-- the pieces kept of a range that is legal or not used
pub kept_used : (set : ℕ) (d : Direction) (range : Interval) → in_use set d ≡ true → legal_if_used set d range ≡ true
    → pieces_of (pieces_kept set d range) ≡ first_cut (put_interval range) (is_integer d)
unfolding pieces_kept
kept_used set d range u h =
    let g : legal_interval range (is_integer d) ≡ true = rw u at h in
    rw (u, g) (pieces_back (first_cut (put_interval range) (is_integer d)) (first_most (put_interval range) (is_integer d)))

pub kept_unused : (set : ℕ) (d : Direction) (range : Interval) → in_use set d ≡ false → pieces_of (pieces_kept set d range) ≡ whole_line ∷ []
unfolding pieces_kept
kept_unused set d range u = rw u

-- ONE CUT

pub with_same : (b : Block) (d : Direction) → with_parameter b d (parameter_of b d) ≡ b
with_same b D.XY = refl
with_same b D.M = refl
with_same b D.N = refl
with_same b D.Theta = refl
with_same b D.T = refl

-- the blocks of which the parameter is this interval
Having : Direction → Interval → Block → Type 0
Having d x b = parameter_of b d ≡ x

each_cut : (d : Direction) (x : Interval) (l : List Block) → Every (Having d x) l → each_cut_first d l ≡ each_with d (first_cut x (is_integer d)) l
unfolding each_cut_first each_with Having
each_cut d x [] h = refl
each_cut d x (b ∷ l) h = ap₂ ◌++◌ (ap (λ (y : Interval). map (with_parameter b d) (first_cut y (is_integer d))) h.0) (each_cut d x l h.1)

each_line : (d : Direction) (l : List Block) → Every (Having d whole_line) l → l ≡ each_with d (whole_line ∷ []) l
unfolding each_with Having
each_line d [] h = refl
each_line d (b ∷ l) h = ap₂ ◌∷◌ (sym (with_same b d) ∙ ap (with_parameter b d) h.0) (each_line d l h.1)

-- a list of blocks that were not cut along a parameter, cut first along it where it is used
pub one_cut : (set : ℕ) (d : Direction) (range : Interval) (l : List Block) → legal_if_used set d range ≡ true
    → Every (λ b. parameter_of b d ≡ as_queued_at (in_use set d) range) l
    → cond (in_use set d) (each_cut_first d l) l ≡ each_with d (pieces_of (pieces_kept set d range)) l
one_cut set d range l h a = go (in_use set d) refl
  where
    go : (u : Bool) → in_use set d ≡ u → cond (in_use set d) (each_cut_first d l) l ≡ each_with d (pieces_of (pieces_kept set d range)) l
    go true u = rw (kept_used set d range u h, u) (each_cut d (put_interval range) l (unfold Having in rw u at a))
    go false u = rw (kept_unused set d range u, u) (each_line d l (unfold Having in rw u at a))

-- ALL CUTS

pub record LegalRanges (set : ℕ) (r : Ranges) : Type 0 where
  pub set_most : set ≤ 63
  pub m : legal_if_used set D.M r.m ≡ true
  pub n : legal_if_used set D.N r.n ≡ true
  pub theta : legal_if_used set D.Theta r.theta ≡ true
  pub t : legal_if_used set D.T r.t ≡ true

pub legal_ranges : (set : ℕ) (r : Ranges) → ranges_legal set r ≡ true → LegalRanges set r
unfolding ranges_legal
legal_ranges set r e =
    let fine : Bool = parameters_legal set r.m r.n r.theta r.t in
    let (m, n, theta, t) = each_legal set r.m r.n r.theta r.t (and_right (legal_set set) fine e) in
    record { set_most = leb-true set 63 (and_left (legal_set set) fine e); m = m; n = n; theta = theta; t = t }

-- the product, as a list: cut along m, then n, then n_theta, then t
abbrev pub cut_m : Product → List Block
cut_m f = each_with D.M (pieces_of f.m) (f.root ∷ [])

abbrev pub cut_n : Product → List Block
cut_n f = each_with D.N (pieces_of f.n) (cut_m f)

abbrev pub cut_theta : Product → List Block
cut_theta f = each_with D.Theta (pieces_of f.theta) (cut_n f)

abbrev pub product_list : Product → List Block
product_list f = each_with D.T (pieces_of f.t) (cut_theta f)

each_any : (ps : List Interval) → Every (λ p. Unit {0}) ps
each_any [] = tt
each_any (p ∷ ps) = (tt, each_any ps)

module _ (p : Chosen) (r : Ranges) where
  -- the blocks that are not cut along these parameters yet
  abbrev UncutT : Block → Type 0
  UncutT b = b.t ≡ as_queued_at (in_use p.set D.T) r.t

  abbrev UncutTheta : Block → Type 0
  UncutTheta b = (b.theta ≡ as_queued_at (in_use p.set D.Theta) r.theta) × UncutT b

  abbrev UncutN : Block → Type 0
  UncutN b = (b.n ≡ as_queued_at (in_use p.set D.N) r.n) × UncutTheta b

  uncut_m : Every UncutN (cut_m (product_of p r))
  unfolding product_of root_block
  uncut_m =
      every_each UncutN UncutN (λ q. Unit {0}) D.M (pieces_of (product_of p r).m) (root_block p r ∷ []) (λ b q u s. u)
      (each_any (pieces_of (product_of p r).m)) ((refl, (refl, refl)), tt)

  uncut_n : Every UncutTheta (cut_n (product_of p r))
  uncut_n =
      every_each UncutN UncutTheta (λ q. Unit {0}) D.N (pieces_of (product_of p r).n) (cut_m (product_of p r)) (λ b q u s. u.1)
      (each_any (pieces_of (product_of p r).n)) uncut_m

  uncut_theta : Every UncutT (cut_theta (product_of p r))
  uncut_theta =
      every_each UncutTheta UncutT (λ q. Unit {0}) D.Theta (pieces_of (product_of p r).theta) (cut_n (product_of p r)) (λ b q u s. u.1)
      (each_any (pieces_of (product_of p r).theta)) uncut_n

  abbrev cut : Direction → List Block → List Block
  cut d l = cond (in_use p.set d) (each_cut_first d l) l

  -- THE FIRST BLOCKS ARE THE PRODUCT
  pub first_is : ranges_legal p.set r ≡ true → first_blocks p r ≡ product_list (product_of p r)
  unfolding first_blocks cut_first_in product_of root_block
  first_is h =
      let g = legal_ranges p.set r h in
      let e₁ = one_cut p.set D.M r.m (root_block p r ∷ []) g.m (refl, tt) in
      let e₂ =
      ap (cut D.N) e₁ ∙ one_cut p.set D.N r.n (cut_m (product_of p r)) g.n
      (every_also UncutN (λ b. b.n ≡ as_queued_at (in_use p.set D.N) r.n) (λ b u. u.0) (cut_m (product_of p r)) uncut_m) in
      let e₃ =
      ap (cut D.Theta) e₂ ∙ one_cut p.set D.Theta r.theta (cut_n (product_of p r)) g.theta
      (every_also UncutTheta (λ b. b.theta ≡ as_queued_at (in_use p.set D.Theta) r.theta) (λ b u. u.0) (cut_n (product_of p r)) uncut_n) in
      ap (cut D.T) e₃ ∙ one_cut p.set D.T r.t (cut_theta (product_of p r)) g.t uncut_theta

-- HOW MANY, AND WHICH

pub count_is : (f : Product) → length (product_list f) ≡ product_count f
unfolding product_count
count_is f =
    let a = pieces_of f.m in
    let b = pieces_of f.n in
    let c = pieces_of f.theta in
    let d = pieces_of f.t in
    rw (length_each D.T d (cut_theta f), length_each D.Theta c (cut_n f), length_each D.N b (cut_m f), length_each D.M a (f.root ∷ []), one-mul (length a))

at_cut : (d : Direction) (c : Result Pieces Refusal) (z : Block) (l : List Block) (k : ℕ) → 0 < piece_count c → k < length (each_with d (pieces_of c) l)
    → (get_or (each_with d (pieces_of c) l) k z ≡ with_parameter (get_or l (k / piece_count c) z) d (piece_at c (k % piece_count c))) × (k / piece_count c < length l)
at_cut d c z l k h i =
    let j : k < length l * piece_count c = rw (length_each d (pieces_of c) l) at i in
    (at_each d (pieces_of c) whole_line z l k h j, (div-lt_iff_lt-mul h).1 j)

root_at : (b z : Block) (k : ℕ) → k < length (b ∷ []) → get_or (b ∷ []) k z ≡ b
root_at b z k h = let e : k ≡ 0 = omega arith in rw e

-- THE i-TH OF THEM
pub at_is : (f : Product) (z : Block) (i : ℕ) → i < product_count f → get_or (product_list f) i z ≡ product_at f i
unfolding product_at
at_is f z i h =
    let s = some f (omega arith) in
    let i₁ = i / piece_count f.t in
    let i₂ = i₁ / piece_count f.theta in
    let i₃ = i₂ / piece_count f.n in
    let (e₁, h₁) = at_cut D.T f.t z (cut_theta f) i s.t (rw (count_is f) h) in
    let (e₂, h₂) = at_cut D.Theta f.theta z (cut_n f) i₁ s.theta h₁ in
    let (e₃, h₃) = at_cut D.N f.n z (cut_m f) i₂ s.n h₂ in
    let (e₄, h₄) = at_cut D.M f.m z (f.root ∷ []) i₃ s.m h₃ in
    let e₅ = root_at f.root z (i₃ / piece_count f.m) h₄ in
    e₁ ∙ rw (e₂, e₃, e₄, e₅)
