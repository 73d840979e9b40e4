-- Words and the bytes that spell them.
use Rattle.std.proofs.Common.{◌≡◌, ℕ, zero, suc, ◌+◌, ◌*◌, ◌<◌, ◌≤◌, List, [], ◌∷◌, ◌++◌, Option, length, take, drop, flat_map, refl, sym, ap, subst, ◌∙◌, arith, length-append, length-take-le, take-add, get_or, get_or-drop}
use Rattle.std.proofs.lemmas.List.{take_more_set, flat_map_more}
use Rattle.std.proofs.lemmas.List.Concat.{flat_map-append}
use Rattle.std.proofs.lemmas.Slice.{take-put_mid}
use Rattle.std.proofs.Math.ListN.{set}
use Rattle.std.specs.Int.{w64, to_le_bytes}
use Rattle.std.specs.Io.KnownBytes.{Consumes}
use Rattle.stream.proofs.Taken.{Consumes-trans}
use Rattle.replay_lists.specs.Reading.{Reads, ReadsFewer}
use borrow.Rule.Slice.PartMut.{put_mid}

-- eight bytes for each
pub words_length : (words : List ℕ) → length (flat_map (to_le_bytes w64) words) ≡ 8 * length words
words_length [] = refl
words_length (n ∷ words) = length-append (to_le_bytes w64 n) (flat_map (to_le_bytes w64) words) ∙ omega (arith, words_length words)

-- what part of some bytes holds are bytes
first_small : (n : ℕ) (bytes : List ℕ) → ((k : ℕ) → get_or bytes k 0 < 256) → (k : ℕ) → get_or (take n bytes) k 0 < 256
first_small zero bytes small k = omega arith
first_small (suc n) [] small k = small k
first_small (suc n) (x ∷ bytes) small zero = small 0
first_small (suc n) (x ∷ bytes) small (suc k) = first_small n bytes (λ j. small (suc j)) k

pub part_small : (n at : ℕ) (bytes : List ℕ) → ((k : ℕ) → get_or bytes k 0 < 256) → (k : ℕ) → get_or (take n (drop at bytes)) k 0 < 256
part_small n at bytes small = first_small n (drop at bytes) (λ k. rw (get_or-drop at bytes k 0) (small (at + k)))

-- a word more, which the next eight bytes spell
pub word_more : (words bytes : List ℕ) (i n : ℕ) → i < length words → flat_map (to_le_bytes w64) (take i words) ≡ take (8 * i) bytes
    → to_le_bytes w64 n ≡ take 8 (drop (8 * i) bytes) → flat_map (to_le_bytes w64) (take (i + 1) (set words i n)) ≡ take (8 * (i + 1)) bytes
word_more words bytes i n h before spells =
    let next : 8 * i + 8 ≡ 8 * (i + 1) = omega arith in
    ap (flat_map (to_le_bytes w64)) (take_more_set words i n h) ∙ sym (flat_map_more (to_le_bytes w64) [] (take i words) n)
    ∙ ap (λ l. l ++ to_le_bytes w64 n) before ∙ ap (λ l. take (8 * i) bytes ++ l) spells ∙ sym (take-add (8 * i) 8 bytes) ∙ ap (λ k. take k bytes) next

-- a group more, whose bytes were read
pub group_more : (a b c : Option (List ℕ)) (words group : List ℕ) (done k n : ℕ) → done ≤ length words → n ≡ done + length group
    → Consumes a b (flat_map (to_le_bytes w64) (take done words)) → Consumes b c (flat_map (to_le_bytes w64) group)
    → Consumes a c (flat_map (to_le_bytes w64) (take n (put_mid done k words group)))
group_more a b c words group done k n h e before read =
    let joined = sym (flat_map-append (to_le_bytes w64) (take done words) group) ∙ ap (flat_map (to_le_bytes w64)) (sym (take-put_mid done k words group n e h)) in
    subst (Consumes a c) joined (Consumes-trans a b c _ _ before read)

-- a group of which only some bytes were read
pub group_cut : (a b c : Option (List ℕ)) (words : List ℕ) (done m n : ℕ) → done ≤ length words → done + m ≤ n
    → Consumes a b (flat_map (to_le_bytes w64) (take done words)) → ReadsFewer (8 * m) b c → ReadsFewer (8 * n) a c
group_cut a b c words done m n h e before (bytes, few, read) =
    let spelled = flat_map (to_le_bytes w64) (take done words) in
    let long = length-append spelled bytes ∙ ap (λ k. k + length bytes) (words_length (take done words) ∙ ap (λ k. 8 * k) (length-take-le done words h)) in
    (spelled ++ bytes, omega arith, Consumes-trans a b c spelled bytes before read)

-- they are so many bytes
pub words_read : (a b : Option (List ℕ)) (words : List ℕ) (n : ℕ) → Consumes a b (flat_map (to_le_bytes w64) words) → n ≡ 8 * length words → Reads n a b
words_read a b words n h e = (flat_map (to_le_bytes w64) words, words_length words ∙ sym e, h)
