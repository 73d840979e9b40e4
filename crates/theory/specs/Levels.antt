-- The bound's words: places, their levels, what a place can still cost, and how many places a picture has on a level.
-- Levels and units are those of base's Axis: px is the level of a pixel, document 01's level 0, and the floor may stand anywhere. (Where a level stands
-- as its rank, px is 48.)
use Rattle.std.specs.Prelude.{◌≡◌, ◌⊎◌, Bool, ℕ, zero, suc, ◌+◌, ◌-◌, ◌*◌, ◌^◌, ◌≤◌, ◌<◌}
use mathlib.Core.List.{List, [], ◌∷◌, map, Sublistᴰ}
unfoldable pub use Rattle.base.specs.Axis.{places_along}
use Rattle.base.specs.Lists.{Every}
use Rattle.theory.specs.Runs.{Snapshot, queued_by, FinishedStep}

-- where a block lies: its indices and its level
pub record BlockPlace : Type 0 where
  pub x : ℕ
  pub y : ℕ
  pub level : ℕ

-- the place x, y of level j
abbrev pub place_at : ℕ → ℕ → ℕ → BlockPlace
place_at x y j = record { x = x; y = y; level = j }

-- the sum of f over the members of a list
unfoldable pub sum_over : {A : Type 0} → (A → ℕ) → List A → ℕ
sum_over f [] = zero
sum_over f (a ∷ l) = f a + sum_over f l

-- the places in the first n levels of the tree that cutting makes of a place
unfoldable pub tree_size : (BlockPlace → List BlockPlace) → ℕ → BlockPlace → ℕ
tree_size cut zero b = zero
tree_size cut (suc n) b = suc (sum_over (tree_size cut n) (cut b))

-- what a place can still cost above level L: one step for each place of its tree that lies above L
unfoldable pub cost_above : (BlockPlace → List BlockPlace) → ℕ → BlockPlace → ℕ
cost_above cut L b = tree_size cut (b.level - L) b

-- the start of a picture of w by h with x or y and no parameter: one block, as wide as the larger side at least; k is the start level, counted
-- from the pixel's. (That k is the least such plays no part.)
pub record OneBlock {Block Pixel : Type 0} (place_of : Block → BlockPlace) (px w h k : ℕ) (s : Snapshot Block Pixel) : Type 0 where
  pub some_width : zero < w
  pub some_height : zero < h
  pub wide : w ≤ 2 ^ k
  pub high : h ≤ 2 ^ k
  pub root : Block
  pub at_root : place_of root ≡ place_at 0 0 (px + k)
  pub one_block : s.queue ≡ root ∷ []

-- the step queues nothing but children of the taken block's place, in their order: its queued places are the children with some left out
unfoldable pub QueuesChildren : {Block Pixel : Type 0} (covers : Block → Pixel → Bool) (spare : Bool) (place_of : Block → BlockPlace)
    (cut : BlockPlace → List BlockPlace) (s s' : Snapshot Block Pixel) → FinishedStep covers spare s s' → Type 0
QueuesChildren covers spare place_of cut s s' st = Sublistᴰ (map place_of (queued_by st.events)) (cut (place_of st.front))

-- the step queues nothing on the floor
unfoldable pub QueuesAbove : {Block Pixel : Type 0} (covers : Block → Pixel → Bool) (spare : Bool) (place_of : Block → BlockPlace) (floor : ℕ)
    (s s' : Snapshot Block Pixel) → FinishedStep covers spare s s' → Type 0
QueuesAbove covers spare place_of floor s s' st = Every (λ b. floor < (place_of b).level) (queued_by st.events)

-- "levels never rise from the front of the queue to its back"
unfoldable pub NeverRise : List BlockPlace → Type 0
NeverRise [] = Unit {0}
NeverRise (b ∷ q) = Every (λ c. c.level ≤ b.level) q × NeverRise q

-- "at most two neighbouring levels are queued": all are on level j or on the one above it
unfoldable pub OnTwoLevels : ℕ → List BlockPlace → Type 0
OnTwoLevels j q = Every (λ c. (c.level ≡ j) ⊎ (c.level ≡ suc j)) q

-- f 0 + f 1 + .. + f (n - 1)
unfoldable pub sum_to : ℕ → (ℕ → ℕ) → ℕ
sum_to zero f = zero
sum_to (suc n) f = sum_to n f + f n

-- the places of a picture on the n levels above L
unfoldable pub places_above : ℕ → ℕ → ℕ → ℕ → ℕ
places_above W H L n = sum_to n (λ i. places_along W (L + suc i) * places_along H (L + suc i))

-- those of a strip, which is cut along x alone
unfoldable pub strip_places_above : ℕ → ℕ → ℕ → ℕ
strip_places_above W L n = sum_to n (λ i. places_along W (L + suc i))

-- "the sum, over j from 1 to the start level, of ceil(width / 2^j) times ceil(height / 2^j)"
unfoldable pub pixel_figure : ℕ → ℕ → ℕ → ℕ
pixel_figure w h k = sum_to k (λ i. places_along w (suc i) * places_along h (suc i))

-- of a strip, the sum of ceil(width / 2^j)
unfoldable pub strip_pixel_figure : ℕ → ℕ → ℕ
strip_pixel_figure w k = sum_to k (λ i. places_along w (suc i))
