-- What two reads take of the bytes that a stream has left, one after the other, and what two writes put behind those that it holds.
use Rattle.std.proofs.Common.{◌≡◌, ℕ, ◌+◌, List, ◌++◌, Option, None, Some, sym, ap, subst, ◌∙◌, append_assoc, take, take-add, drop}
use Rattle.std.specs.Io.KnownBytes.{Appends, Consumes}

pub Consumes-trans : (a b c : Option (List ℕ)) (bs cs : List ℕ) → Consumes a b bs → Consumes b c cs → Consumes a c (bs ++ cs)
Consumes-trans None b c bs cs p q = tt
Consumes-trans (Some x) None c bs cs p q = absurd p
Consumes-trans (Some x) (Some y) None bs cs p q = absurd q
Consumes-trans (Some x) (Some y) (Some z) bs cs p q = p ∙ ap (λ l. bs ++ l) q ∙ sym (append_assoc bs cs z)

-- a buffer whose first bytes were taken, and then more, which stand behind them
pub Consumes-more : (a b c : Option (List ℕ)) (old new : List ℕ) (done n : ℕ) → Consumes a b (take done old) → take done new ≡ take done old
    → Consumes b c (take n (drop done new)) → Consumes a c (take (done + n) new)
Consumes-more a b c old new done n p e q =
    subst (Consumes a c) (sym (take-add done n new)) (Consumes-trans a b c _ _ (subst (Consumes a b) (sym e) p) q)

pub Appends-trans : (a b c : Option (List ℕ)) (bs cs : List ℕ) → Appends a b bs → Appends b c cs → Appends a c (bs ++ cs)
Appends-trans None b c bs cs p q = tt
Appends-trans (Some x) None c bs cs p q = absurd p
Appends-trans (Some x) (Some y) None bs cs p q = absurd q
Appends-trans (Some x) (Some y) (Some z) bs cs p q = q ∙ ap (λ l. l ++ cs) p ∙ append_assoc x bs cs

-- a buffer whose first bytes were put, and then more of it
pub Appends-more : (a b c : Option (List ℕ)) (buf : List ℕ) (done n : ℕ) → Appends a b (take done buf) → Appends b c (take n (drop done buf))
    → Appends a c (take (done + n) buf)
Appends-more a b c buf done n p q = subst (Appends a c) (sym (take-add done n buf)) (Appends-trans a b c _ _ p q)
