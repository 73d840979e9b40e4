-- Entries of one size, read one after the other.
use Rattle.std.proofs.Common.{◌≡◌, ℕ, ◌+◌, ◌*◌, ◌<◌, List, ◌++◌, Option, length, refl, sym, ap, ◌∙◌, arith, length-append, add-mul, one-mul}
use Rattle.stream.proofs.Taken.{Consumes-trans}
use Rattle.replay_lists.specs.Reading.{Reads, ReadsFewer, ReadsAll, ReadsSome, Ends}

-- so many bytes, and then more
pub reads_more : (a b c : Option (List ℕ)) (m n k : ℕ) → Reads m a b → Reads n b c → m + n ≡ k → Reads k a c
reads_more a b c m n k (x, long, first) (y, longer, then) e = (x ++ y, length-append x y ∙ omega arith, Consumes-trans a b c x y first then)

pub entry_more : (a b c : Option (List ℕ)) (count size : ℕ) → Reads (count * size) a b → Reads size b c → Reads ((count + 1) * size) a c
entry_more a b c count size before read =
    let next = sym (add-mul count 1 size ∙ ap (λ n. count * size + n) (one-mul size)) in
    reads_more a b c (count * size) size _ before read next

-- the list ends within the next one
pub entries_end : (a b c : Option (List ℕ)) (count size : ℕ) → Reads (count * size) a b → Ends size b c → ReadsAll size count a c
entries_end a b c count size before (end, (y, few, read)) = (end, (length y, few, reads_more a b c (count * size) (length y) _ before (y, refl, read) refl))

-- the next one fails to be read, or to be played
pub entry_fails : (a b c : Option (List ℕ)) (count size most : ℕ) → count < most → Reads (count * size) a b → ReadsFewer size b c → ReadsSome size most a c
entry_fails a b c count size most h before (y, few, read) = (count, h, (length y, omega arith, reads_more a b c (count * size) (length y) _ before (y, refl, read) refl))

pub play_fails : (a b c : Option (List ℕ)) (count size most : ℕ) → count < most → Reads (count * size) a b → Reads size b c → ReadsSome size most a c
play_fails a b c count size most h before read = (count, h, (size, omega arith, reads_more a b c (count * size) size _ before read refl))
