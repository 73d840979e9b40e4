-- The room that the code measures and what it carries out, child by child, are the definitions'. Assumes nothing.
use Rattle.std.specs.Prelude.{Result, Ok, Err, Option, Some, None}
use Rattle.queue.specs.declared.QueueError.{QueueError}
use Rattle.queue.specs.declared.QueueError.TheVariants as Q
use Rattle.queue.specs.Queue.{code_measured}
use Rattle.queue.specs.Answers.{measured_count}
use mathlib.Core.Path.{◌≡◌, refl, sym, ap, ◌∙◌}
use mathlib.Core.Bool.{Bool, true, false, not, ◌&&◌}
use mathlib.Core.List.{List, [], ◌∷◌}
use Prim.Native.Nat.{ℕ, suc, ◌+◌, ◌*◌, ◌^◌, ◌≤◌, ◌<◌, min}
use native.Mathlib.Nat.{zero-add}
use native.Mathlib.Omega.{arith}
use native.Mathlib.Numerals.{add-one}
use lib.Dec.{leb}
use lib.ListN.{length, get_or, drop, drop_of_length-le}
use lib.Seq.{drop-cons}
use borrow.Author.Tests.{le-leb, lt-leb, leb-true}
use Rattle.base.proofs.Test.{cases, by_test, cond_yes, cond_no, and_left, and_right}
use Rattle.refusal.specs.declared.Refusal.TheVariants as R
use Rattle.image.specs.declared.Op.TheVariants as O
use Rattle.queue.specs.declared.Block.{Block}
use Rattle.queue.specs.declared.Last.{Last}
use Rattle.queue.specs.declared.Measured.{Measured}
use Rattle.queue.specs.declared.Appended.{Appended}
use Rattle.queue.specs.Code.{encode}
use Rattle.queue.specs.Queue.{codable, measured, appended, appended_ring}
use Rattle.queue.proofs.QueueAnswers.{denied, granted, codable_both}
use Rattle.queue.proofs.QueueableLaws.{encode_few}
use Rattle.queue.specs.Block.{as_queued}
use Rattle.decide.specs.declared.Chosen.{Chosen}
use Rattle.decide.specs.declared.children.Cut.{Cut}
use Rattle.decide.specs.Turn.{Turned}
use Rattle.decide.specs.Turn as Tu
use Rattle.decide.specs.declared.verdict.Outcome.{Outcome}
use Rattle.decide.specs.ChildAt.{child_of}
use Rattle.decide.specs.Turn.{start_of, searched, turned_to, turned_by, turned_found}
use Rattle.decide.specs.Verdict.{is_marking, is_incomplete}
use Rattle.plan.specs.AtOnce.{children_by}
use Rattle.plan.proofs.JudgeLaws.{from_length, from_drop}
use Rattle.implicit.specs.declared.deciding.Decided.{Decided}
use Rattle.implicit.specs.declared.fitting.Size.{Size}
use Rattle.implicit.specs.declared.commit.Behind.{Behind}
use Rattle.implicit.specs.declared.commit.Carried.{Carried}
use Rattle.implicit.specs.Record.{put_last}
use Rattle.implicit.specs.StepComputed.{turn_of, with_code, sized_turn, sized_child, sized_all, size_of, size_check}
use Rattle.implicit.specs.StepComputed.{painted_block, marked_child, marked_all, marked_for, Carrying, carrying_of, with_carried, queued_as, with_queued}
use Rattle.implicit.specs.StepComputed.{carried_turn, carried_child, carried_by, carried_all, carried_for, committed}

-- THE ROOM

pub measured_few : (set : ℕ) (back : Last) (b : Block) (m : Result Measured QueueError) (count : ℕ) (last : Last) → m ≡ measured set back b → m ≡ code_measured count last → count ≤ 83
unfolding measured
measured_few set back b m count last e f =
    cases (codable set back b)
    (λ k. (let c = codable_both set back b k in
    let g : code_measured (length (encode set back (as_queued set b))) _ ≡ code_measured count last = rw k at (sym e ∙ f) in
    let j : length (encode set back (as_queued set b)) ≡ count = ap measured_count g in
    omega (arith, encode_few set back (as_queued set b) c.0 c.1)))
    (λ k. (let g : Err Q.NotCodable ≡ code_measured count last = rw k at (sym e ∙ f) in let z : ◌≡◌ {A = ℕ} 0 1 = cc in absurd (omega arith)))

-- each child that is queued takes at most 83 bytes and one number
abbrev Grown : Size → ℕ → Size → Type 0
Grown z n r = (r.total ≤ z.total + 83 * n) × (r.queued ≤ z.queued + n)

turn_grown : (set : ℕ) (z : Size) (t : Turned) → Grown z 1 (sized_turn set z t)
turn_grown set z (Tu.To c) = code (measured set z.last c) refl
  where
    code : (m : Result Measured QueueError) → m ≡ measured set z.last c → Grown z 1 (with_code z m)
    code (Ok m) h = (omega (arith, measured_few set z.last c (Ok m) m.count m.last h refl), omega arith)
    code (Err why) h = (omega arith, omega arith)
turn_grown set z Tu.Nowhere = (omega arith, omega arith)

child_grown : (p : Chosen) (turn : Block → Turned) (z : Size) (c : Block) (o : Outcome) → Grown z 1 (sized_child p turn z c o)
child_grown p turn z c o =
    by_test (Grown z 1) (is_incomplete o) (sized_turn p.set z (turn c)) z (λ e. turn_grown p.set z (turn c)) (λ e. (omega arith, omega arith))

all_grown : (p : Chosen) (turn : Block → Turned) (z : Size) (cs : List Block) (es : List Outcome) → Grown z (length cs) (sized_all p turn z cs es)
unfolding sized_all
all_grown p turn z [] es = (omega arith, omega arith)
all_grown p turn z (c ∷ cs) [] = (omega arith, omega arith)
all_grown p turn z (c ∷ cs) (e ∷ es) =
    let r = sized_child p turn z c e in
    let f = child_grown p turn z c e in
    let g = all_grown p turn r cs es in
    (omega (arith, f.0, g.0), omega (arith, f.1, g.1))

module _ (queued room : ℕ) (z : Size) where
  pub size_many : 4294967296 < queued + z.queued → Err R.Numbers ≡ size_check queued room z
  unfolding size_check
  size_many k = rw (lt-leb (queued + z.queued) (2 ^ 32) k)

  module _ (k : queued + z.queued ≤ 4294967296) where
    pub size_full : room < z.total → Err R.Room ≡ size_check queued room z
    unfolding size_check
    size_full l = rw (le-leb (queued + z.queued) (2 ^ 32) k, lt-leb z.total room l)

    pub size_passed : z.total ≤ room → Ok tt ≡ size_check queued room z
    unfolding size_check
    size_passed l = rw (le-leb (queued + z.queued) (2 ^ 32) k, le-leb z.total room l)

pub size_few : (p : Chosen) (queued room : ℕ) (back : Last) (g : Decided) → leb 332 room && leb queued 4294967292 ≡ true
    → Ok tt ≡ size_check queued room (size_of p back g)
size_few p queued room back g t =
    let h = leb-true 332 room (and_left (leb 332 room) (leb queued 4294967292) t) in
    let k = leb-true queued 4294967292 (and_right (leb 332 room) (leb queued 4294967292) t) in
    let z : Size = record { queued = 0; total = 0; last = back } in
    let cs = children_by g.cut g.block in
    let n = from_length g.cut g.block 0 (min g.cut.count 4) in
    let f = all_grown p (turn_of p g) z cs g.judged.at in
    size_passed queued room (size_of p back g) (omega (arith, f.1, n, k)) (omega (arith, f.0, n, h))

-- CHILD BY CHILD: what is left to do from here is what was to do

module _ (k : Cut) (b : Block) (es : List Outcome) (i : ℕ) where
  abbrev cs : List Block
  cs = children_by k b

  done : k.count ≤ i → drop i cs ≡ []
  done h = let l = from_length k b 0 (min k.count 4) in drop_of_length-le cs {i = i} (omega arith)

  pub sized_end : (p : Chosen) (turn : Block → Turned) (z : Size) → k.count ≤ i → sized_all p turn z (drop i cs) (drop i es) ≡ z
  unfolding sized_all
  sized_end p turn z h = rw (done h)

  pub marked_end : (p : Chosen) (cells : List ℕ) → k.count ≤ i → marked_all p cells (drop i cs) (drop i es) ≡ cells
  unfolding marked_all
  marked_end p cells h = rw (done h)

  pub carried_end : (p : Chosen) (from : ℕ) (turn : Block → Turned) (head : ℕ) (w : Carrying) → k.count ≤ i
      → carried_all p from turn head b w (drop i cs) (drop i es) ≡ w
  unfolding carried_all
  carried_end p from turn head w h = rw (done h)

  module _ (four : (k.count ≤ 4) × (length es ≡ 4)) (h : i < k.count) (d : Outcome) where
    here : drop i cs ≡ child_of k b i ∷ drop (i + 1) cs
    here =
        rw (add-one i)
        (from_drop k b i 0 (min k.count 4) (omega (arith, four.0, h)) ∙ ap (λ (m : ℕ). child_of k b m ∷ drop (suc i) cs) (zero-add i))

    noted_here : drop i es ≡ get_or es i d ∷ drop (i + 1) es
    noted_here = rw (add-one i) (drop-cons es i d (omega (arith, four.0, four.1, h)))

    pub sized_on : (p : Chosen) (turn : Block → Turned) (z r : Size) → r ≡ sized_child p turn z (child_of k b i) (get_or es i d)
        → sized_all p turn r (drop (i + 1) cs) (drop (i + 1) es) ≡ sized_all p turn z (drop i cs) (drop i es)
    unfolding sized_all
    sized_on p turn z r e = rw (here, noted_here, e)

    pub marked_on : (p : Chosen) (cells r : List ℕ) → r ≡ marked_child p cells (child_of k b i) (get_or es i d)
        → marked_all p r (drop (i + 1) cs) (drop (i + 1) es) ≡ marked_all p cells (drop i cs) (drop i es)
    unfolding marked_all
    marked_on p cells r e = rw (here, noted_here, e)

    pub carried_on : (p : Chosen) (from : ℕ) (turn : Block → Turned) (head : ℕ) (w v : Carrying)
        → v ≡ carried_by p from turn head b w (child_of k b i) (get_or es i d)
        → carried_all p from turn head b v (drop (i + 1) cs) (drop (i + 1) es) ≡ carried_all p from turn head b w (drop i cs) (drop i es)
    unfolding carried_all
    carried_on p from turn head w v e = rw (here, noted_here, e)

-- a child, by the tests that the code makes: `t` says whether it is incomplete, and `c'` is the child
pub marked_not : (p : Chosen) (cells : List ℕ) (c : Block) (o : Outcome) (t : Bool) → t ≡ is_marking o → not t ≡ true → cells ≡ marked_child p cells c o
marked_not p cells c o t e h = sym (cond_no (is_marking o) _ _ (sym e ∙ denied t h))

pub marked_as : (p : Chosen) (cells : List ℕ) (c : Block) (o : Outcome) (t : Bool) → t ≡ is_marking o → not t ≡ false
    → (c' : Block) (r : List ℕ) → c' ≡ c → r ≡ painted_block p c' O.Mark cells → r ≡ marked_child p cells c o
marked_as p cells c o t e h c' r f g =
    g ∙ ap (λ (x : Block). painted_block p x O.Mark cells) f ∙ sym (cond_yes (is_marking o) (painted_block p c O.Mark cells) cells (sym e ∙ granted t h))

module _ (p : Chosen) (turn : Block → Turned) (z : Size) (c : Block) (o : Outcome) (t : Bool) (is_t : t ≡ is_incomplete o) where
  pub sized_not : not t ≡ true → z ≡ sized_child p turn z c o
  sized_not h = sym (cond_no (is_incomplete o) _ _ (sym is_t ∙ denied t h))

  pub sized_as : not t ≡ false → (c' : Block) (r : Size) → c' ≡ c → r ≡ sized_turn p.set z (turn c') → r ≡ sized_child p turn z c o
  sized_as h c' r f g =
      g ∙ ap (λ (x : Block). sized_turn p.set z (turn x)) f ∙ sym (cond_yes (is_incomplete o) (sized_turn p.set z (turn c)) z (sym is_t ∙ granted t h))

-- with the direction that it finds
module _ (p : Chosen) (start : ℕ) (z : Size) (c : Block) (f : Option ℕ) (is_f : f ≡ searched p c start) where
  pub sized_turned : (dir : ℕ) → f ≡ Some dir → (t : Block) (r : Size) → t ≡ turned_to c dir → r ≡ with_code z (measured p.set z.last t)
      → r ≡ sized_turn p.set z (turned_found p start c)
  sized_turned dir e t r g h =
      h ∙ ap (λ (x : Block). with_code z (measured p.set z.last x)) g ∙ ap (λ (x : Option ℕ). sized_turn p.set z (turned_by c x)) (sym e ∙ is_f)

  pub sized_nowhere : f ≡ None → z ≡ sized_turn p.set z (turned_found p start c)
  sized_nowhere e = ap (λ (x : Option ℕ). sized_turn p.set z (turned_by c x)) (sym e ∙ is_f)

-- queued, by what the queue answers
queued_by : (p : Chosen) (from head : ℕ) (c : Block) (w : Carrying) (a : Result Appended QueueError) (ring' : List ℕ)
    → a ≡ appended (length w.ring) head w.used p.set w.back c → ring' ≡ appended_ring w.ring head w.used p.set w.back c
    → (y : Result Appended QueueError) → a ≡ y → queued_as p from c w ring' y ≡ with_queued p from head c w
unfolding with_queued
queued_by p from head c w a ring' is_a is_ring y e = rw (is_ring, sym e ∙ is_a)

module _ (p : Chosen) (from start head : ℕ) (b : Block) (queued used : ℕ) (back : Last) (ring cells : List ℕ) (c : Block) (o : Outcome) (t : Bool)
    (is_t : t ≡ is_incomplete o) where
  abbrev before : Carrying
  before = record { queued = queued; used = used; back = back; ring = ring; cells = cells }

  abbrev made : Carrying
  made = carried_child p from (turned_found p start) head b queued used back ring cells c o

  pub carried_not : not t ≡ true → before ≡ made
  carried_not h = let u : is_incomplete o ≡ false = sym is_t ∙ denied t h in rw u

  module _ (h : not t ≡ false) (c' : Block) (is_c : c' ≡ c) (f : Option ℕ) (is_f : f ≡ searched p c' start) where
    by_turn : made ≡ carried_turn p from head b before (turned_by c' f)
    by_turn =
        cond_yes (is_incomplete o) (carried_turn p from head b before (turned_found p start c)) before (sym is_t ∙ granted t h)
        ∙ ap (λ (x : Block). carried_turn p from head b before (turned_found p start x)) (sym is_c)
        ∙ ap (λ (x : Option ℕ). carried_turn p from head b before (turned_by c' x)) (sym is_f)

    pub carried_nowhere : (cells' : List ℕ) → f ≡ None → cells' ≡ painted_block p b O.GiveUp cells
        → record { queued = queued; used = used; back = back; ring = ring; cells = cells' } ≡ made
    carried_nowhere cells' e g = rw g (sym (by_turn ∙ ap (λ (x : Option ℕ). carried_turn p from head b before (turned_by c' x)) e))

    pub carried_queued : (dir : ℕ) → f ≡ Some dir → (a : Result Appended QueueError) (ring' : List ℕ) → a ≡ appended (length ring) head used p.set back (turned_to c' dir)
        → ring' ≡ appended_ring ring head used p.set back (turned_to c' dir) → (y : Result Appended QueueError) → a ≡ y → (w : Carrying)
        → w ≡ queued_as p from (turned_to c' dir) before ring' y → w ≡ made
    carried_queued dir e a ring' is_a is_ring y g w j =
        j ∙ queued_by p from head (turned_to c' dir) before a ring' is_a is_ring y g
        ∙ sym (by_turn ∙ ap (λ (x : Option ℕ). carried_turn p from head b before (turned_by c' x)) e)

-- before the first child
pub carried_begun : (p : Chosen) (from queued : ℕ) (back : Last) (ring cells : List ℕ) (g : Decided) (start : ℕ) (last : Last)
    → start ≡ start_of p g.block g.judged.incomplete → last ≡ put_last back
    → carried_all p from (turned_found p start) g.head g.block
    (record { queued = queued; used = g.used; back = last; ring = ring; cells = cells })
    (children_by g.cut g.block) g.judged.at
    ≡ carried_for p from queued back ring cells g
carried_begun p from queued back ring cells g start last e f = rw (e, f)

-- the record that a child leaves, by what is said of it
pub carried_join : (l n : Behind) (ring cells : List ℕ) (k v : Option Carried) → k ≡ v
    → carrying_of n ring cells ≡ with_carried l.queued l.used l.back v ring cells
    → carrying_of n ring cells ≡ with_carried l.queued l.used l.back k ring cells
carried_join l n ring cells k v e f = f ∙ ap (λ (x : Option Carried). with_carried l.queued l.used l.back x ring cells) (sym e)

pub carried_more : (l n : Behind) (ring cells : List ℕ) (k : Option Carried) → carrying_of n ring cells ≡ with_carried l.queued l.used l.back k ring cells
    → n.queued ≤ l.queued + 1
carried_more l n ring cells (Some c) e = let q = ap (λ (w : Carrying). w.queued) e in omega (arith, q)
carried_more l n ring cells None e = let q = ap (λ (w : Carrying). w.queued) e in omega (arith, q)

-- the marks, and then the rest
pub committed_by : (p : Chosen) (from queued : ℕ) (back : Last) (ring cells : List ℕ) (g : Decided) (marked : List ℕ) (w : Carrying)
    → marked ≡ marked_for p cells g → w ≡ carried_for p from queued back ring marked g → w ≡ committed p from queued back ring cells g
unfolding committed
committed_by p from queued back ring cells g marked w e h = h ∙ rw e
