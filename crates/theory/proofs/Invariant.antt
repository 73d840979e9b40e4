-- The invariant: a cell that names a block still in the queue names the last queued block that covers its pixel. It holds after setup, and
-- each event of a step keeps it while the front block still stands in its place; then the front block goes. Assumes nothing.
use mathlib.Core.Path.{◌≡◌, refl}
use mathlib.Core.Bool.{Bool, true, false, cond}
use mathlib.Core.List.{List, [], ◌∷◌, ◌++◌, append_assoc, append-nil}
use Prim.Native.Nat.{ℕ, zero, suc, ◌+◌, ◌≤◌, ◌<◌}
use native.Mathlib.Omega.{arith}
use lib.Dec.{T, leb, le→leb}
use lib.ListN.{length, length-append}
use Rattle.base.proofs.Test.{T→≡, ≡→T}
use Rattle.base.specs.Lists.{Every}
use Rattle.theory.specs.Cells.{Standing, marked_true, given_up, named, renamed, after_giving_up}
use Rattle.theory.specs.Runs.{Snapshot, Event, marks, queues, gives_up, queued_by, Narrower, AllNarrower, AcceptedSetup, cell_after, FinishedStep}
use Rattle.theory.specs.Runs.{FinishedSteps, no_step, one_more}
use Rattle.theory.specs.Demand3.{covers_at_place, NamesLast}
use Rattle.theory.proofs.Nameless.{Nameless, given_nameless}

module _ {Block Pixel : Type 0} (covers : Block → Pixel → Bool) where
  -- places of a list
  pub place_in : (q : List Block) (i : ℕ) (p : Pixel) → T (covers_at_place covers q i p) → i < length q
  unfolding covers_at_place
  place_in [] i p h = absurd h
  place_in (b ∷ q) zero p h = omega arith
  place_in (b ∷ q) (suc i) p h = let r = place_in q i p h in omega arith

  place_left : (q r : List Block) (i : ℕ) (p : Pixel) → T (covers_at_place covers q i p) → T (covers_at_place covers (q ++ r) i p)
  unfolding covers_at_place
  place_left [] r i p h = absurd h
  place_left (b ∷ q) r zero p h = h
  place_left (b ∷ q) r (suc i) p h = place_left q r i p h

  place_new : (q : List Block) (c : Block) (p : Pixel) → covers_at_place covers (q ++ (c ∷ [])) (length q) p ≡ covers c p
  unfolding covers_at_place
  place_new [] c p = refl
  place_new (b ∷ q) c p = place_new q c p

  place_old : (q : List Block) (c : Block) (i : ℕ) (p : Pixel) → covers c p ≡ false → T (covers_at_place covers (q ++ (c ∷ [])) i p)
      → T (covers_at_place covers q i p)
  unfolding covers_at_place
  place_old [] c zero p e h = rw e at h
  place_old [] c (suc i) p e h = h
  place_old (b ∷ q) c zero p e h = h
  place_old (b ∷ q) c (suc i) p e h = place_old q c i p e h

  place_every : (q : List Block) (i : ℕ) (p : Pixel) → Every (λ b. (p : Pixel) → T (covers b p)) q → i < length q → T (covers_at_place covers q i p)
  unfolding covers_at_place
  place_every [] i p a h = absurd (omega arith)
  place_every (b ∷ q) zero p a h = a.0 p
  place_every (b ∷ q) (suc i) p a h = place_every q i p a.1 (omega arith)

  -- what the invariant says of a cell, whatever stands in it
  abbrev pub Sound : ℕ → List Block → Pixel → Standing → Type 0
  Sound t q p marked_true = Unit {0}
  Sound t q p given_up = Unit {0}
  Sound t q p (named n) = NamesLast covers t q p n

  -- a child is marked
  mark_sound : (t : ℕ) (q : List Block) (p : Pixel) (k : Bool) (v : Standing) → Sound t q p v → Sound t q p (cond k marked_true v)
  mark_sound t q p true v h = tt
  mark_sound t q p false v h = h

  -- a child finds no direction
  nameless_sound : (t : ℕ) (q : List Block) (p : Pixel) (v : Standing) → Nameless v → Sound t q p v
  nameless_sound t q p marked_true h = tt
  nameless_sound t q p given_up h = tt
  nameless_sound t q p (named n) h = absurd h

  give_sound : (t : ℕ) (q : List Block) (p : Pixel) (k spare : Bool) (v : Standing) → Sound t q p v → Sound t q p (cond k (after_giving_up spare v) v)
  give_sound t q p true spare v h = nameless_sound t q p (after_giving_up spare v) (given_nameless spare v)
  give_sound t q p false spare v h = h

  -- a child is queued, which covers only what the front block covers: it becomes the last that covers the pixel, or covers it not at all
  queue_sound : (t : ℕ) (q : List Block) (p : Pixel) (c : Block) → (T (covers c p) → T (covers_at_place covers q zero p)) → (v : Standing)
      → Sound t q p v
      → Sound t (q ++ (c ∷ [])) p (cond (covers c p) (renamed t (t + length q) v) v)
  unfolding renamed
  queue_sound t q p c front v h = go (covers c p) refl v h
    where
      last : (n : ℕ) → covers c p ≡ true → NamesLast covers t q p n → Sound t (q ++ (c ∷ [])) p (cond (leb t n) (named (t + length q)) (named n))
      last n e o =
          let z : t ≤ n = (let r = o.none_behind zero (front (≡→T e)) in omega arith) in
          rw (T→≡ (leb t n) (le→leb t n z))
          record {
            covering = λ i k. (let j : i ≡ length q = omega arith in rw (j, place_new) (≡→T e));
            none_behind = λ i k. (let r = place_in (q ++ (c ∷ [])) i p k in omega (arith, length-append q (c ∷ [])));
          }

      go : (k : Bool) → covers c p ≡ k → (v : Standing) → Sound t q p v → Sound t (q ++ (c ∷ [])) p (cond k (renamed t (t + length q) v) v)
      go true e marked_true o = tt
      go true e given_up o = tt
      go true e (named n) o = last n e o
      go false e marked_true o = tt
      go false e given_up o = tt
      go false e (named n) o = record {
        covering = λ i k. place_left q (c ∷ []) i p (o.covering i k);
        none_behind = λ i k. o.none_behind i
            (place_old q c i p e k);
      }

  -- the front block goes
  take_sound : (t : ℕ) (b : Block) (q : List Block) (p : Pixel) (v : Standing) → Sound t (b ∷ q) p v → Sound (suc t) q p v
  unfolding covers_at_place
  take_sound t b q p marked_true h = tt
  take_sound t b q p given_up h = tt
  take_sound t b q p (named n) h = record {
    covering = λ i e. h.covering (suc i) (omega arith);
    none_behind = λ i k.
        (let r = h.none_behind (suc i) k in omega arith);
  }

  -- all cells
  unfoldable pub AllSound : Snapshot Block Pixel → Type 0
  AllSound s = (p : Pixel) → Sound s.taken s.queue p (s.cells p)

  pub setup_sound : {s : Snapshot Block Pixel} → AcceptedSetup covers s → AllSound s
  unfolding AllSound
  setup_sound {s} z p = rw (z.name_last p)
      record {
        covering = λ i e. place_every s.queue i p z.cover_all (omega (arith, z.none_taken, z.some_block));
        none_behind = λ i k. (let r = place_in s.queue i p k in omega (arith, z.none_taken, z.some_block));
      }

  module _ (spare : Bool) where
    events_sound : (t : ℕ) (b : Block) (q : List Block) (es : List (Event Block)) → AllNarrower covers b es → (p : Pixel) (v : Standing)
        → Sound t (b ∷ q) p v
        → Sound t (b ∷ (q ++ queued_by es)) p (cell_after covers spare t b (t + length (b ∷ q)) es p v)
    unfolding cell_after queued_by AllNarrower covers_at_place Narrower
    events_sound t b q [] w p v h = rw append-nil h
    events_sound t b q (marks c ∷ es) w p v h = events_sound t b q es w.1 p (cond (covers c p) marked_true v) (mark_sound t (b ∷ q) p (covers c p) v h)
    events_sound t b q (queues c ∷ es) w p v h =
        let e : t + length (b ∷ (q ++ (c ∷ []))) ≡ suc (t + length (b ∷ q)) = omega (arith, length-append q (c ∷ [])) in
        rw (e, append_assoc q (c ∷ []) (queued_by es)) at (events_sound t b (q ++ (c ∷ [])) es w.1 p (cond (covers c p) (renamed t (t + length (b ∷ q)) v) v)
        (queue_sound t (b ∷ q) p c (w.0 p) v h))
    events_sound t b q (gives_up ∷ es) w p v h = events_sound t b q es w p (cond (covers b p) (after_giving_up spare v) v)
        (give_sound t (b ∷ q) p (covers b p) spare v h)

    step_sound : {s s' : Snapshot Block Pixel} → FinishedStep covers spare s s' → AllSound s → AllSound s'
    unfolding AllSound
    step_sound {s} st h p =
        let g : Sound s.taken (st.front ∷ st.rest) p (s.cells p) = rw st.at_front at (h p) in
        rw (st.taken', st.queue', st.cells' p, st.at_front)
        (take_sound s.taken st.front (st.rest ++ queued_by st.events) p
        (cell_after covers spare s.taken st.front (s.taken + length (st.front ∷ st.rest)) st.events p (s.cells p))
        (events_sound s.taken st.front st.rest st.events st.narrower p (s.cells p) g))

    pub steps_sound : {n : ℕ} {s s' : Snapshot Block Pixel} → FinishedSteps covers spare n s s' → AllSound s → AllSound s'
    steps_sound no_step h = h
    steps_sound (one_more r st) h = step_sound st (steps_sound r h)

  pub sound_named : (s : Snapshot Block Pixel) → AllSound s → (p : Pixel) (n : ℕ) → s.cells p ≡ named n → NamesLast covers s.taken s.queue p n
  unfolding AllSound
  sound_named s h p n e = rw e at (h p)
