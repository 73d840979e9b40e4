-- How long until no queued block is above level L, over any way of cutting places into places one level lower. The queue's cost above L is a
-- potential: a step that takes a block above L lowers it by at least one, and the levels in the queue fall from front to back, so once the
-- front is not above L, nothing is. Assumes nothing.
use mathlib.Core.Path.{◌≡◌, refl}
use mathlib.Core.Logic.{◌⊎◌, inl, inr}
use mathlib.Core.Bool.{Bool}
use mathlib.Core.List.Sublistᴰ
use mathlib.Core.List.{List, [], ◌∷◌, ◌++◌, map, map-append, Sublistᴰ}
use Prim.Native.Nat.{ℕ, zero, suc, ◌+◌, ◌-◌, ◌≤◌, ◌<◌}
use native.Mathlib.Decide.{dec_lt}
use native.Mathlib.Omega.{arith}
use Rattle.theory.specs.Runs.{Snapshot, queued_by, FinishedStep, FinishedSteps, no_step, one_more, EveryStep}
use Rattle.theory.specs.Levels.{BlockPlace, tree_size, cost_above, QueuesChildren, NeverRise, OnTwoLevels, sum_over}
use Rattle.base.specs.Lists.{Every}
use Rattle.base.proofs.ListLaws.{every_append, every_also}
use Rattle.theory.proofs.ListLaws.{sum_append, sum_same, fewer_sum, fewer_every}

-- the queue's levels: first some blocks of level m + 1, then the rest of level m
unfoldable pub TwoLevels : ℕ → List BlockPlace → Type 0
TwoLevels m [] = Unit {0}
TwoLevels m (b ∷ q) = ((b.level ≡ suc m) × TwoLevels m q) ⊎ ((b.level ≡ m) × Every (λ c. c.level ≡ m) q)

-- more of level m behind
two_behind : (m : ℕ) (q new : List BlockPlace) → TwoLevels m q → Every (λ c. c.level ≡ m) new → TwoLevels m (q ++ new)
unfolding TwoLevels
two_behind m [] [] h a = tt
two_behind m [] (x ∷ new) h a = inr (a.0, a.1)
two_behind m (b ∷ q) new (inl h) a = inl (h.0, two_behind m q new h.1 a)
two_behind m (b ∷ q) new (inr h) a = inr (h.0, every_append (λ c. c.level ≡ m) q new h.1 a)

-- the first of level m behind those of level m + 1
two_anew : (m : ℕ) (q new : List BlockPlace) → Every (λ c. c.level ≡ suc m) q → Every (λ c. c.level ≡ m) new → TwoLevels m (q ++ new)
unfolding TwoLevels
two_anew m [] [] h a = tt
two_anew m [] (x ∷ new) h a = inr (a.0, a.1)
two_anew m (b ∷ q) new h a = inl (h.0, two_anew m q new h.1 a)

two_flat : (m : ℕ) (q : List BlockPlace) → Every (λ c. c.level ≡ m) q → TwoLevels m q
unfolding TwoLevels
two_flat m [] a = tt
two_flat m (c ∷ q) a = inr (a.0, a.1)

two_under : (m : ℕ) (q : List BlockPlace) → TwoLevels m q → Every (λ c. c.level ≤ suc m) q
unfolding TwoLevels
two_under m [] t = tt
two_under m (c ∷ q) (inl t) = (omega (arith, t.0), two_under m q t.1)
two_under m (c ∷ q) (inr t) = (omega (arith, t.0), every_also (λ d. d.level ≡ m) (λ d. d.level ≤ suc m) (λ d e. omega arith) q t.1)

two_front : (m : ℕ) (b : BlockPlace) (q : List BlockPlace) → TwoLevels m (b ∷ q) → Every (λ c. c.level ≤ b.level) q
unfolding TwoLevels
two_front m b q (inl t) = every_also (λ c. c.level ≤ suc m) (λ c. c.level ≤ b.level) (λ c e. omega (arith, t.0)) q (two_under m q t.1)
two_front m b q (inr t) = every_also (λ c. c.level ≡ m) (λ c. c.level ≤ b.level) (λ c e. omega (arith, t.0)) q t.1

flat_never_rise : (m : ℕ) (q : List BlockPlace) → Every (λ c. c.level ≡ m) q → NeverRise q
unfolding NeverRise
flat_never_rise m [] a = tt
flat_never_rise m (b ∷ q) a = (every_also (λ c. c.level ≡ m) (λ c. c.level ≤ b.level) (λ c e. omega (arith, a.0)) q a.1, flat_never_rise m q a.1)

two_never_rise : (m : ℕ) (q : List BlockPlace) → TwoLevels m q → NeverRise q
unfolding NeverRise TwoLevels
two_never_rise m [] t = tt
two_never_rise m (b ∷ q) (inl t) = (two_front m b q (inl t), two_never_rise m q t.1)
two_never_rise m (b ∷ q) (inr t) = (two_front m b q (inr t), flat_never_rise m q t.1)

two_neighbours : (m : ℕ) (q : List BlockPlace) → TwoLevels m q → OnTwoLevels m q
unfolding TwoLevels OnTwoLevels
two_neighbours m [] t = tt
two_neighbours m (b ∷ q) (inl t) = (inr t.0, two_neighbours m q t.1)
two_neighbours m (b ∷ q) (inr t) = (inl t.0, every_also (λ c. c.level ≡ m) (λ c. (c.level ≡ m) ⊎ (c.level ≡ suc m)) (λ c e. inl e) q t.1)

module _ (cut : BlockPlace → List BlockPlace) (lower : (b : BlockPlace) → Every (λ c. suc c.level ≡ b.level) (cut b)) where
  -- what is queued of a place lies one level lower
  queued_lower : (m : ℕ) (b : BlockPlace) (new : List BlockPlace) → Sublistᴰ new (cut b) → b.level ≡ suc m → Every (λ c. c.level ≡ m) new
  queued_lower m b new s e =
      every_also (λ c. suc c.level ≡ b.level) (λ c. c.level ≡ m) (λ c f. omega arith) new (fewer_every (λ c. suc c.level ≡ b.level) s (lower b))

  -- under the lowest level there is nothing
  queued_none : (b : BlockPlace) (new : List BlockPlace) → Sublistᴰ new (cut b) → b.level ≡ zero → Every (λ c. c.level ≡ zero) new
  queued_none b new s e =
      every_also (λ c. suc c.level ≡ b.level) (λ c. c.level ≡ zero) (λ c f. omega arith) new (fewer_every (λ c. suc c.level ≡ b.level) s (lower b))

  two_step : (m : ℕ) (b : BlockPlace) (q new : List BlockPlace) → Sublistᴰ new (cut b) → TwoLevels m (b ∷ q) → (k : ℕ) × TwoLevels k (q ++ new)
  unfolding TwoLevels
  two_step m b q new s (inl h) = (m, two_behind m q new h.1 (queued_lower m b new s h.0))
  two_step zero b q new s (inr h) = (zero, two_behind zero q new (two_flat zero q h.1) (queued_none b new s h.0))
  two_step (suc m) b q new s (inr h) = (m, two_anew m q new h.1 (queued_lower m b new s h.0))

  -- the children of a place above L cost less than it does
  pub children_cost_less : (L : ℕ) (b : BlockPlace) (new : List BlockPlace) → Sublistᴰ new (cut b) → L < b.level
      → sum_over (cost_above cut L) new < cost_above cut L b
  unfolding cost_above tree_size
  children_cost_less L b new s h = go (b.level - L - 1) (omega arith)
    where
      one_less : (n : ℕ) → b.level - L ≡ suc n → Every (λ c. cost_above cut L c ≡ tree_size cut n c) (cut b)
      one_less n e =
          every_also (λ c. suc c.level ≡ b.level) (λ c. cost_above cut L c ≡ tree_size cut n c) (λ c f. (let g : c.level - L ≡ n = omega arith in rw g))
          (cut b) (lower b)

      go : (n : ℕ) → b.level - L ≡ suc n → sum_over (cost_above cut L) new < tree_size cut (b.level - L) b
      go n e =
          let r = fewer_sum (cost_above cut L) s in
          let q = sum_same (cost_above cut L) (tree_size cut n) (cut b) (one_less n e) in
          rw e (omega arith)

  -- a place above L costs something, so where nothing costs anything nothing is above L
  cost_free : (L : ℕ) (q : List BlockPlace) → sum_over (cost_above cut L) q ≡ zero → Every (λ c. c.level ≤ L) q
  unfolding sum_over
  cost_free L [] e = tt
  cost_free L (b ∷ q) e = (
    elim (dec_lt L b.level) as (λ _. b.level ≤ L) [
      | yes h ↦ (let r = children_cost_less L b [] (Sublistᴰ.nil-sublist (cut b)) h in omega arith)
      | no h ↦ omega arith
    ],
    cost_free L q (omega arith),
  )

  -- after n steps nothing is above L any more, or the cost has gone down by n
  Sinking : ℕ → ℕ → ℕ → List BlockPlace → Type 0
  Sinking L total n q = Every (λ c. c.level ≤ L) q ⊎ (sum_over (cost_above cut L) q + n ≤ total)

  sinking_step : (L total n m : ℕ) (b : BlockPlace) (q new : List BlockPlace) → Sublistᴰ new (cut b) → TwoLevels m (b ∷ q) → Sinking L total n (b ∷ q)
      → Sinking L total (suc n) (q ++ new)
  unfolding Sinking sum_over
  sinking_step L total n m b q new s t f = elim (dec_lt L b.level) [ yes h ↦ above h f | no h ↦ inl (below (omega arith)) ]
    where
      below : b.level ≤ L → Every (λ c. c.level ≤ L) (q ++ new)
      below h = every_append (λ c. c.level ≤ L) q new
          (every_also (λ c. c.level ≤ b.level) (λ c. c.level ≤ L) (λ c e. omega arith) q (two_front m b q t))
          (every_also (λ c. suc c.level ≡ b.level) (λ c. c.level ≤ L) (λ c e. omega arith) new (fewer_every (λ c. suc c.level ≡ b.level) s (lower b)))

      above : L < b.level → Every (λ c. c.level ≤ L) (b ∷ q) ⊎ (sum_over (cost_above cut L) (b ∷ q) + n ≤ total)
          → Every (λ c. c.level ≤ L) (q ++ new) ⊎ (sum_over (cost_above cut L) (q ++ new) + suc n ≤ total)
      above h (inl a) = absurd (omega (arith, a.0))
      above h (inr e) = let r = children_cost_less L b new s h in inr (omega (arith, sum_append (cost_above cut L) q new))

  module _ {Block Pixel : Type 0} (covers : Block → Pixel → Bool) (spare : Bool) (place_of : Block → BlockPlace) where
    abbrev Queues : (s s' : Snapshot Block Pixel) → FinishedStep covers spare s s' → Type 0
    Queues = QueuesChildren covers spare place_of cut

    two_of : (k : ℕ) {s s' : Snapshot Block Pixel} → TwoLevels k (map place_of s.queue) → (st : FinishedStep covers spare s s') → Queues s s' st
        → (m : ℕ) × TwoLevels m (map place_of s'.queue)
    unfolding QueuesChildren
    two_of k u st c =
        let w : TwoLevels k (place_of st.front ∷ map place_of st.rest) = rw st.at_front at u in
        rw (st.queue', map-append) (two_step k (place_of st.front) (map place_of st.rest) (map place_of (queued_by st.events)) c w)

    -- a step that takes a block above L lowers the queue's cost
    pub step_costs : (L : ℕ) {s s' : Snapshot Block Pixel} (st : FinishedStep covers spare s s') → Queues s s' st → L < (place_of st.front).level
        → sum_over (cost_above cut L) (map place_of s'.queue) < sum_over (cost_above cut L) (map place_of s.queue)
    unfolding QueuesChildren sum_over
    step_costs L {s} st c h =
        rw (st.queue', st.at_front, map-append)
        (let r = children_cost_less L (place_of st.front) (map place_of (queued_by st.events)) c h in omega
        (arith, sum_append (cost_above cut L) (map place_of st.rest) (map place_of (queued_by st.events))))

    two_steps : (m : ℕ) {n : ℕ} {s₀ s : Snapshot Block Pixel} → TwoLevels m (map place_of s₀.queue) → (r : FinishedSteps covers spare n s₀ s)
        → EveryStep covers spare Queues r
        → (k : ℕ) × TwoLevels k (map place_of s.queue)
    unfolding EveryStep
    two_steps m t no_step c = (m, t)
    two_steps m t (one_more r st) c = let (k, u) = two_steps m t r c.0 in two_of k u st c.1

    sinking_of : (L total n k : ℕ) {s s' : Snapshot Block Pixel} → TwoLevels k (map place_of s.queue) → Sinking L total n (map place_of s.queue)
        → (st : FinishedStep covers spare s s') → Queues s s' st
        → Sinking L total (suc n) (map place_of s'.queue)
    unfolding QueuesChildren
    sinking_of L total n k u g st c =
        let w : TwoLevels k (place_of st.front ∷ map place_of st.rest) = rw st.at_front at u in
        let f : Sinking L total n (place_of st.front ∷ map place_of st.rest) = rw st.at_front at g in
        rw (st.queue', map-append)
        (sinking_step L total n k (place_of st.front) (map place_of st.rest) (map place_of (queued_by st.events)) c w f)

    sinking_steps : (L total m : ℕ) {n : ℕ} {s₀ s : Snapshot Block Pixel} → TwoLevels m (map place_of s₀.queue)
        → Sinking L total zero (map place_of s₀.queue)
        → (r : FinishedSteps covers spare n s₀ s) → EveryStep covers spare Queues r → Sinking L total n (map place_of s.queue)
    unfolding EveryStep
    sinking_steps L total m t f no_step c = f
    sinking_steps L total m t f (one_more {n = n} r st) c = let (k, u) = two_steps m t r c.0 in sinking_of L total n k u
        (sinking_steps L total m t f r c.0) st c.1

    start_levels : (q : List Block) (root : Block) → q ≡ root ∷ [] → TwoLevels (place_of root).level (map place_of q)
    unfolding TwoLevels
    start_levels q root e = rw e (inr (refl, tt))

    -- from one block, the steps of its cost later nothing is above L
    pub sunk : (L : ℕ) {n : ℕ} {s₀ s : Snapshot Block Pixel} (root : Block) → s₀.queue ≡ root ∷ [] → (r : FinishedSteps covers spare n s₀ s)
        → EveryStep covers spare Queues r
        → cost_above cut L (place_of root) ≤ n → Every (λ c. c.level ≤ L) (map place_of s.queue)
    unfolding Sinking sum_over
    sunk L {n} {s₀} {s} root e r c h = done (sinking_steps L (cost_above cut L (place_of root)) (place_of root).level (start_levels s₀.queue root e)
        (inr first) r c)
      where
        first : sum_over (cost_above cut L) (map place_of s₀.queue) + zero ≤ cost_above cut L (place_of root)
        first = rw e (omega arith)

        done : Every (λ c. c.level ≤ L) (map place_of s.queue) ⊎ (sum_over (cost_above cut L) (map place_of s.queue) + n ≤ cost_above cut L (place_of root))
            → Every (λ c. c.level ≤ L) (map place_of s.queue)
        done (inl a) = a
        done (inr k) = cost_free L (map place_of s.queue) (omega arith)

    pub levels_fall : {n : ℕ} {s₀ s : Snapshot Block Pixel} (root : Block) → s₀.queue ≡ root ∷ [] → (r : FinishedSteps covers spare n s₀ s)
        → EveryStep covers spare Queues r
        → NeverRise (map place_of s.queue) × ((j : ℕ) × OnTwoLevels j (map place_of s.queue))
    levels_fall {s₀ = s₀} {s = s} root e r c =
        let (m, t) = two_steps (place_of root).level (start_levels s₀.queue root e) r c in
        (two_never_rise m (map place_of s.queue) t, (m, two_neighbours m (map place_of s.queue) t))
