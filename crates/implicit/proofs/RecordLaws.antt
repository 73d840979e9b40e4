-- Laws of sound records and of what they remember. Assumes nothing.
use mathlib.Core.Path.{◌≡◌, refl, sym, ap, ap₂, ◌∙◌}
use mathlib.Core.List.{List, [], ◌∷◌}
use mathlib.Core.Bool.{Bool, true, false, not, ◌&&◌, false≢true}
use Prim.Native.Nat.{ℕ, zero, suc, ◌+◌, ◌^◌, ◌≤◌, ◌<◌}
use native.Mathlib.Nat.{mul-le-mul_right}
use native.Mathlib.Omega.{arith}
use lib.Dec.{leb, ltb, eqb}
use lib.Ieee.{Float, nan, inf, fin, le, lt, eq}
use lib.ListN.{length, get_or, take}
use lib.ListN as L
use lib.Seq.{take-nil, length-take-le, get_or-take}
use borrow.Author.Tests.{leb-true, ltb-true, eqb-true, eqb-false, le-leb, lt-ltb, le-ltb, eq-eqb, ne_eqb}
use Rattle.base.proofs.Test.{cases, and_left, and_right, and_six, and_implied, beq_true, beq_self}
use Rattle.coordinate.specs.Axis.{ordinary_floor}
use Rattle.coordinate.proofs.PixelLaws.{ranged}
use Rattle.interval.specs.declared.Interval.{Interval}
use Rattle.interval.specs.Bounds.{legal_interval, whole_bound, same_interval}
use Rattle.interval.proofs.Legality.{put_again, put_legal}
use Rattle.image.specs.Cell.{Cell, Named, meaning_of, meanings}
use Rattle.image.specs.Range.{cell_index, holds_cell, picture_ready, whole_picture}
use Rattle.image.specs.Painting.{keep_at, pixel_cell, held_cells}
use Rattle.image.proofs.AtLaws.{keep_at_none}
use Rattle.image.proofs.RangeLaws.{cell_below, beyond_not_held, whole_holds, whole_in_picture}
use Rattle.queue.specs.declared.Block.{Block}
use Rattle.queue.specs.declared.Last.{Last}
use Rattle.queue.specs.Block.{whole_line, remembered, starting_last}
use Rattle.queue.proofs.KeptLaws.{line_legal}
use Rattle.decide.specs.declared.Chosen.{Chosen}
use Rattle.decide.specs.Damage.{legal_chosen, undamaged}
use Rattle.decide.proofs.DamageLaws.{LegalChosen, legal_chosen_lem, is_undamaged}
use Rattle.implicit.specs.declared.state.State.{State}
use Rattle.implicit.specs.Record.{pixel_count, pixel_cells, sound_last, sound_counts, sound_ring, sound_use, sound_record, queue_empty, put_last}

-- BY THE TESTS THAT THE CODE MAKES

-- what equals an infinity as a number is that infinity
only_inf : (s : Bool) (a : Float) → eq a (inf s) ≡ true → a ≡ inf s
unfolding eq
only_inf s nan e = absurd (false≢true e)
only_inf true (inf true) e = refl
only_inf true (inf false) e = absurd (false≢true e)
only_inf false (inf true) e = absurd (false≢true e)
only_inf false (inf false) e = refl
only_inf s (fin t m x) e = absurd (false≢true e)

-- the whole line is legal
pub line_kept : (x l : Interval) (integer same : Bool) → l ≡ whole_line → same ≡ same_interval x l → same ≡ true → true ≡ legal_interval x integer
unfolding same_interval
line_kept x l integer same e f g =
    let h : eq x.lower (inf true) && eq x.upper (inf false) ≡ true = sym (rw e at f) ∙ g in
    let a = only_inf true x.lower (and_left (eq x.lower (inf true)) (eq x.upper (inf false)) h) in
    let b = only_inf false x.upper (and_right (eq x.lower (inf true)) (eq x.upper (inf false)) h) in
    sym (ap₂ (λ (u v : Float). legal_interval (record { lower = u; upper = v }) integer) a b ∙ line_legal integer)

pub sound_last_as : (l : Last) (m n theta t : Bool) → m ≡ legal_interval l.m true → n ≡ legal_interval l.n true
    → theta ≡ legal_interval l.theta true → t ≡ legal_interval l.t false
    → ltb l.x (2 ^ 47) && ltb l.y (2 ^ 47) && m && n && theta && t ≡ sound_last l
unfolding sound_last
sound_last_as l m n theta t e f g h = rw (e, f, g, h)

pub sound_record_as : (len : ℕ) (s : State) (p c r u f b : Bool) → p ≡ legal_chosen s.chosen → c ≡ sound_counts s → r ≡ sound_ring len s
    → u ≡ sound_use s → f ≡ sound_last s.front → b ≡ sound_last s.back → p && c && r && u && f && b ≡ sound_record len s
unfolding sound_record
sound_record_as len s p c r u f b hp hc hr hu hf hb = rw (hp, hc, hr, hu, hf, hb)

-- WHAT IS REMEMBERED

pub record SoundLast (l : Last) : Type 0 where
  pub x : l.x < 2 ^ 47
  pub y : l.y < 2 ^ 47
  pub m : legal_interval l.m true ≡ true
  pub n : legal_interval l.n true ≡ true
  pub theta : legal_interval l.theta true ≡ true
  pub t : legal_interval l.t false ≡ true

pub sound_last_lem : (l : Last) → sound_last l ≡ true → SoundLast l
unfolding sound_last
sound_last_lem l h =
    let f =
    and_six (ltb l.x (2 ^ 47)) (ltb l.y (2 ^ 47)) (legal_interval l.m true) (legal_interval l.n true)
    (legal_interval l.theta true) (legal_interval l.t false) h in
    record { x = ltb-true l.x (2 ^ 47) f.0; y = ltb-true l.y (2 ^ 47) f.1; m = f.2; n = f.3; theta = f.4; t = f.5 }

pub last_sound : (l : Last) → SoundLast l → sound_last l ≡ true
unfolding sound_last
last_sound l h = rw (lt-ltb l.x (2 ^ 47) h.x, lt-ltb l.y (2 ^ 47) h.y, h.m, h.n, h.theta, h.t)

-- putting the zeros damages nothing and mends nothing
pub put_last_sound : (l : Last) → sound_last (put_last l) ≡ sound_last l
unfolding sound_last put_last
put_last_sound l = rw (put_legal l.m true, put_legal l.n true, put_legal l.theta true, put_legal l.t false)

pub put_last_again : (l : Last) → put_last (put_last l) ≡ put_last l
unfolding put_last
put_last_again l = rw (put_again l.m, put_again l.n, put_again l.theta, put_again l.t)

-- the starting values are sound, and so is what is remembered of an undamaged block
pub starting_sound : sound_last starting_last ≡ true
unfolding sound_last starting_last legal_interval whole_bound le lt eq
starting_sound = refl

pub remembered_sound : (p : Chosen) (b : Block) → undamaged p b ≡ true → sound_last (remembered b) ≡ true
unfolding remembered
remembered_sound p b e =
    let u = is_undamaged p b e in
    let x = ranged ordinary_floor b.x.rank b.x.index u.x.in_ranges in
    let y = ranged ordinary_floor b.y.rank b.y.index u.y.in_ranges in
    last_sound (remembered b) record {
      x = x.bound;
      y = y.bound;
      m = u.parameters.m;
      n = u.parameters.n;
      theta = u.parameters.theta;
      t = u.parameters.t;
    }

-- THE RECORD

pub record SoundRecord (len : ℕ) (s : State) : Type 0 where
  pub chosen : LegalChosen s.chosen
  pub order : s.taken ≤ s.queued
  pub numbers : s.queued ≤ 2 ^ 32
  pub ring : s.len ≡ len
  pub head : s.head < len
  pub used : s.used ≤ len
  pub empty : eqb s.used 0 ≡ eqb s.taken s.queued
  pub front : SoundLast s.front
  pub back : SoundLast s.back

pub sound_record_lem : (len : ℕ) (s : State) → sound_record len s ≡ true → SoundRecord len s
unfolding sound_record
sound_record_lem len s h =
    let f = and_six (legal_chosen s.chosen) (sound_counts s) (sound_ring len s) (sound_use s) (sound_last s.front) (sound_last s.back) h in
    let r = and_left (eqb s.len len && ltb s.head len) (leb s.used len) f.2 in
    record {
      chosen = legal_chosen_lem s.chosen f.0;
      order = leb-true s.taken s.queued (and_left (leb s.taken s.queued) (leb s.queued (2 ^ 32)) f.1);
      numbers = leb-true s.queued (2 ^ 32) (and_right (leb s.taken s.queued) (leb s.queued (2 ^ 32)) f.1);
      ring = eqb-true s.len len (and_left (eqb s.len len) (ltb s.head len) r);
      head = ltb-true s.head len (and_right (eqb s.len len) (ltb s.head len) r);
      used = leb-true s.used len (and_right (eqb s.len len && ltb s.head len) (leb s.used len) f.2);
      empty = beq_true (eqb s.used 0) (eqb s.taken s.queued) f.3;
      front = sound_last_lem s.front f.4;
      back = sound_last_lem s.back f.5;
    }

-- a record whose use is not sound is damaged
pub use_damaged : (len : ℕ) (s : State) → sound_use s ≡ false → sound_record len s ≡ false
unfolding sound_record
use_damaged len s h = rw h (without (legal_chosen s.chosen) (sound_counts s) (sound_ring len s) (sound_last s.front) (sound_last s.back))
  where
    without : (a b c e f : Bool) → a && b && c && false && e && f ≡ false
    without true true true e f = refl
    without true true false e f = refl
    without true false c e f = refl
    without false b c e f = refl

-- a record that is sound by its use is sound exactly if its use is
pub use_same : (len : ℕ) (s : State) → (sound_use s ≡ true → sound_record len s ≡ true) → sound_use s ≡ sound_record len s
use_same len s h = cases (sound_use s) (λ e. e ∙ sym (h e)) (λ e. e ∙ sym (use_damaged len s e))

pub use_as : (s : State) → sound_use s ≡ true → eqb s.used 0 ≡ eqb s.taken s.queued
use_as s h = beq_true (eqb s.used 0) (eqb s.taken s.queued) h

picture_legal : (p : Chosen) → LegalChosen p → legal_chosen p ≡ true
unfolding legal_chosen
picture_legal p h =
    rw (
      le-leb 1 p.width h.width_some,
      le-leb p.width 32768 h.width_most,
      le-leb 1 p.height h.height_some,
      le-leb p.height 32768 h.height_most,
      le-leb p.set 63 h.set_most,
    )

pub record_sound : (len : ℕ) (s : State) → SoundRecord len s → sound_record len s ≡ true
unfolding sound_record
record_sound len s h =
    rw (
      picture_legal s.chosen h.chosen,
      le-leb s.taken s.queued h.order,
      le-leb s.queued (2 ^ 32) h.numbers,
      eq-eqb s.len len h.ring,
      lt-ltb s.head len h.head,
      le-leb s.used len h.used,
      h.empty,
      beq_self (eqb s.taken s.queued),
      last_sound s.front h.front,
      last_sound s.back h.back,
    )

pub sound_chosen : (len : ℕ) (s : State) → sound_record len s ≡ true → legal_chosen s.chosen ≡ true
unfolding sound_record
sound_chosen len s h = (and_six (legal_chosen s.chosen) (sound_counts s) (sound_ring len s) (sound_use s) (sound_last s.front) (sound_last s.back) h).0

-- a legal picture has a pixel, and at most 2^30
pub pixels_some : (p : Chosen) → legal_chosen p ≡ true → 1 ≤ pixel_count p
pixels_some p e = let l = legal_chosen_lem p e in omega (arith, l.height_some, mul-le-mul_right {m = 1} {n = p.width} p.height l.width_some)

pub pixels_most : (p : Chosen) → legal_chosen p ≡ true → pixel_count p ≤ 2 ^ 30
pixels_most p e = let l = legal_chosen_lem p e in omega (arith, l.height_most, mul-le-mul_right {m = p.width} {n = 32768} p.height l.width_most)

-- THE PIXELS' CELLS

keep_first : (t : ℕ → Bool) (i k : ℕ) (l : List Cell) → ((j : ℕ) → i ≤ j → j < i + k → t j ≡ true) → ((j : ℕ) → i + k ≤ j → t j ≡ false)
    → keep_at t i l ≡ take k l
keep_first t i k [] on off = sym (take-nil k)
keep_first t i zero (c ∷ l) on off = keep_at_none t i (c ∷ l) (λ j p q. off j (omega arith))
keep_first t i (suc k) (c ∷ l) on off =
    rw (on i (omega arith) (omega arith))
    (ap (λ (r : List Cell). c ∷ r) (keep_first t (suc i) k l (λ j p q. on j (omega arith) (omega arith)) (λ j p. off j (omega arith))))

-- they are the first cells, as many as there are pixels
pub pixel_cells_lem : (p : Chosen) (l : List ℕ) → pixel_cells p l ≡ take (pixel_count p) (meanings l)
unfolding held_cells
pixel_cells_lem p l =
    keep_first (holds_cell p.width (whole_picture p.width p.height)) 0 (pixel_count p) (meanings l)
    (λ j a b. whole_holds p.width p.height j (omega arith))
    (λ j a. beyond_not_held p.width p.height (whole_picture p.width p.height) j (whole_in_picture p.width p.height) (omega arith))

pub pixel_cells_length : (p : Chosen) (l : List ℕ) → pixel_count p ≤ length l → length (pixel_cells p l) ≡ pixel_count p
pixel_cells_length p l h = ap length (pixel_cells_lem p l) ∙ length-take-le (pixel_count p) (meanings l) (rw (L.length-map l meaning_of) h)

-- a pixel's own stands where the picture has its byte
pub pixel_cell_at : (p : Chosen) (l : List ℕ) (x y : ℕ) → x < p.width → y < p.height
    → get_or (pixel_cells p l) (cell_index p.width p.height x y) (Named 0) ≡ pixel_cell p.width p.height x y (meanings l)
pixel_cell_at p l x y h k =
    ap (λ (m : List Cell). get_or m (cell_index p.width p.height x y) (Named 0)) (pixel_cells_lem p l)
    ∙ get_or-take (pixel_count p) (meanings l) (cell_index p.width p.height x y) (Named 0) (cell_below p.width p.height x y h k)

-- the whole picture asks only for enough cells
pub whole_ready : (p : Chosen) (n : ℕ) → pixel_count p ≤ n → picture_ready p.width p.height (whole_picture p.width p.height) n ≡ true
unfolding picture_ready
whole_ready p n h = rw (whole_in_picture p.width p.height, le-leb (pixel_count p) n h)

-- THREE READINGS OF AN EMPTY QUEUE: on a sound record they are one

pub empty_by_count : (len : ℕ) (s : State) → sound_record len s ≡ true → queue_empty s ≡ eqb s.taken s.queued
empty_by_count len s h = rw ((sound_record_lem len s h).empty, and_implied (eqb s.taken s.queued) (eqb s.taken s.queued) (λ e. e))

pub empty_by_bytes : (len : ℕ) (s : State) → sound_record len s ≡ true → queue_empty s ≡ eqb s.used 0
empty_by_bytes len s h = empty_by_count len s h ∙ sym (sound_record_lem len s h).empty

-- and it is not empty exactly if a block waits, which has bytes
pub waiting_by_count : (len : ℕ) (s : State) → sound_record len s ≡ true → ltb s.taken s.queued ≡ not (queue_empty s)
waiting_by_count len s h =
    let r = sound_record_lem len s h in
    cases (eqb s.taken s.queued)
    (λ e. le-ltb s.taken s.queued (omega (arith, eqb-true s.taken s.queued e)) ∙ sym (ap not (empty_by_count len s h ∙ e)))
    (λ e. lt-ltb s.taken s.queued (omega (arith, r.order, eqb-false s.taken s.queued e)) ∙ sym (ap not (empty_by_count len s h ∙ e)))

pub waiting_bytes : (len : ℕ) (s : State) → sound_record len s ≡ true → s.taken < s.queued → 0 < s.used
waiting_bytes len s h k =
    let r = sound_record_lem len s h in
    let n : eqb s.used 0 ≡ false = r.empty ∙ ne_eqb s.taken s.queued (λ e. omega arith) in
    omega (arith, eqb-false s.used 0 n)
