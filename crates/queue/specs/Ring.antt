-- Document 01, "The queue's bytes", second paragraph: the ring's two stretches, what it holds, and bytes stored behind.
--
--   position   0 ..          head ..                      length
--              [ newer stretch | free | older stretch    ]     the bytes used go round the end
--              [ free          | older stretch  | free   ]     they do not: the newer stretch is empty
use Rattle.std.specs.Prelude.{Bool, ◌&&◌, cond, List, [], ◌∷◌, ◌++◌, ℕ, ◌+◌, ◌-◌, min, leb, ltb, eqb, length, take, drop, set}

-- the bytes at an offset of the two stretches: a part of the older to its end, past it a part of the newer to its end,
-- which past both is empty
unfoldable pub part_of : List ℕ → List ℕ → ℕ → List ℕ
part_of older newer at = cond (ltb at (length older)) (drop at older) (drop (at - length older) newer)

-- a place in memory, as its allocation and an offset, and the place so many bytes behind it
abbrev pub behind : ℕ × ℕ → ℕ → ℕ × ℕ
behind place count = (place.0, place.1 + count)

-- where that part lies, by where the stretches begin and their lengths: in the older, past it in the newer, and past
-- both at the newer one's end
unfoldable pub part_place : ℕ × ℕ → ℕ → ℕ × ℕ → ℕ → ℕ → ℕ × ℕ
part_place older older_length newer newer_length at =
    cond (ltb at older_length) (behind older at) (behind newer (min (at - older_length) newer_length))

-- the bytes from the head on, and those that go on at byte 0
unfoldable pub older_stretch : List ℕ → ℕ → ℕ → List ℕ
older_stretch ring head used = take used (drop head ring)

unfoldable pub newer_stretch : List ℕ → ℕ → ℕ → List ℕ
newer_stretch ring head used = take (head + used - length ring) ring

-- the bytes that the ring holds, from the front of the queue to its back
unfoldable pub content : List ℕ → ℕ → ℕ → List ℕ
content ring head used = older_stretch ring head used ++ newer_stretch ring head used

-- a head below the length, and no more bytes used than there are: all of them may be
abbrev pub fits_ring : ℕ → ℕ → ℕ → Bool
fits_ring len head used = ltb head len && leb used len

-- a position that may have gone round the end once
abbrev pub wrapped : ℕ → ℕ → ℕ
wrapped len at = cond (ltb at len) at (at - len)

-- bytes stored one after the other from a position on, round the end: the others keep their values
unfoldable pub stored : List ℕ → ℕ → List ℕ → List ℕ
stored ring at [] = ring
stored ring at (b ∷ bs) = stored (set ring at b) (cond (eqb (at + 1) (length ring)) 0 (at + 1)) bs

-- bytes stored behind those that are used
abbrev pub stored_behind : List ℕ → ℕ → ℕ → List ℕ → List ℕ
stored_behind ring head used bs = stored ring (wrapped (length ring) (head + used)) bs
