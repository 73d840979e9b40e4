-- The entry: the answer from what a setup leaves on, and the refusals before it. Assumes nothing.
use mathlib.Core.Path.{◌≡◌, refl, sym, ap, ◌∙◌}
use mathlib.Core.Bool.{Bool, true, false, not, ◌&&◌}
use mathlib.Core.List.{List, []}
use Prim.Native.Nat.{ℕ, ◌+◌, ◌*◌, ◌<◌}
use native.Mathlib.Omega.{arith}
use lib.Dec.{leb, ltb}
use lib.ListN.{length, get_or, get_or-map}
use borrow.Author.Tests.{ltb-true}
use Rattle.base.proofs.Test.{and_left, and_right}
use Rattle.std.specs.Prelude.{Result, Ok, Err}
use Rattle.refusal.specs.declared.Refusal.{Refusal}
use Rattle.refusal.specs.declared.Refusal.TheVariants as R
use Rattle.image.specs.Cell.{Cell, meaning_of}
use Rattle.queue.specs.declared.Block.{Block}
use Rattle.decide.specs.declared.Chosen.{Chosen}
use Rattle.implicit.specs.declared.state.State.{State}
use Rattle.implicit.specs.declared.state.Ranges.{Ranges}
use Rattle.implicit.specs.declared.state.Ending.{Ending}
use Rattle.implicit.specs.declared.state.Ending.TheVariants as E
use Rattle.implicit.specs.Record.{pixel_count}
use Rattle.implicit.specs.Setup.{start_record, setup_answer, ring_begun, cells_begun}
use Rattle.implicit.specs.Step.{World, world_of}
use Rattle.implicit.specs.Run.{RunEnd, run_from}
use Rattle.explain.specs.declared.noting.Notes.{Notes}
use Rattle.explain.specs.declared.repeating.Repeated.{Repeated}
use Rattle.explain.specs.declared.reason.Reason.{Reason}
use Rattle.explain.specs.declared.reason.Explanation.{Explanation}
use Rattle.explain.specs.History.{PastStep, history_from}
use Rattle.explain.specs.Reasons.{covers_at, cell_at, reason_of}
use Rattle.explain.specs.Explained.{pixel_inside, and_then_pixel, beginning, world_begun, reason_after}
use Rattle.explain.specs.Explained.{explained_by, unless_refused, if_ready, explained, ring_explained, cells_explained}
use Rattle.explain.specs.NotesComputed.{no_notes}
use Rattle.explain.specs.RepeatComputed.{RepeatedTo, notes_after}
use Rattle.explain.specs.ExplainComputed.{is_ready, reason_noted, explanation_of, ExplainsFrom}
use Rattle.explain.proofs.NotesMean.{notes_of}
use Rattle.explain.proofs.HistoryLaws.{notes_history}
use Rattle.explain.proofs.BeginLaws.{ready_enough, ready_state, ready_ring, refused_ring}
use Rattle.explain.proofs.ReasonLaws.{noted_reason}

-- the answer by how a run ended, which counted the same
ended_as : (p : Repeated) (ending : Ending) (reason : Reason) (e : RunEnd) → p.state ≡ e.world.state → p.steps ≡ e.steps
    → p.evaluations ≡ e.evaluations → p.tape ≡ e.tape → ending ≡ e.ending
    → explanation_of p reason ending ≡ explained_by reason e e.ending
ended_as p ending reason e s n v t f = ap (explanation_of p reason) f ∙ go e.ending
  where
    go : (x : Ending) → explanation_of p reason x ≡ explained_by reason e x
    go E.Done = rw (s, n, v, t)
    go E.Limit = rw (s, n, v, t)
    go E.More = rw (s, n, v, t)
    go (E.Stop why) = rw (s, n, v, t)

-- THE ANSWER from a world on
module _ (steps column row : ℕ) (s : State) (ring cells tape : List ℕ)
    (in_width : column < s.chosen.width) (in_height : row < s.chosen.height) where
  abbrev begun : World
  begun = world_of s ring cells

  abbrev end : RunEnd
  end = run_from steps begun tape

  abbrev past : List PastStep
  past = history_from steps begun tape []

  abbrev here : Block → Bool
  here = covers_at s.chosen column row

  module _ (p : Repeated) (ending : Ending) (ring' cells' : List ℕ) (ran : RepeatedTo end p ending ring' cells')
      (notes : p.notes ≡ notes_after column row steps begun tape 0 no_notes) (same : p.state.chosen ≡ s.chosen) where
    -- the pixel's cell
    abbrev cell : Cell
    cell = meaning_of (get_or cells' (row * s.chosen.width + column) 0)

    world_is : world_of p.state ring' cells' ≡ end.world
    world_is = ran.world

    reason_is : (reason : Reason) → reason ≡ reason_noted p.state ring' p.notes cell
        → reason ≡ reason_after s.chosen column row end past
    unfolding reason_after meaning_of
    reason_is reason e =
        let left = world_of p.state ring' cells' in
        let k : p.notes ≡ notes_of s.chosen here past =
        notes ∙ notes_history s.chosen column row in_width in_height steps begun refl tape in
        let c : cell ≡ cell_at s.chosen column row cells' = sym (get_or-map meaning_of cells' (row * s.chosen.width + column) 0) in
        e ∙ ap (λ (k : Notes). reason_noted p.state ring' k cell) k
        ∙ noted_reason s.chosen here left past cell same
        ∙ ap (reason_of here left past) c
        ∙ ap (λ (w : World). reason_of here w past (cell_at s.chosen column row w.cells)) world_is

    pub answer_from : (reason : Reason) → reason ≡ reason_noted p.state ring' p.notes cell → (r : Explanation)
        → r ≡ explanation_of p reason ending → ExplainsFrom steps column row begun tape r ring' cells'
    answer_from reason e r f =
        let state_is : p.state ≡ end.world.state = ap (λ (w : World). w.state) world_is in
        record {
          answer = f ∙ ended_as p ending reason end state_is ran.steps ran.evaluations ran.tape ran.ending
              ∙ ap (λ (q : Reason). explained_by q end end.ending) (reason_is reason e);
          ring_left = ap (λ (w : World). w.ring) world_is;
          cells_left = ap (λ (w : World). w.cells) world_is;
        }

-- IT BEGAN: the setup is ready, the pixel lies inside, and this is the world
module _ (p : Chosen) (r : Ranges) (ring cells : List ℕ) (column row : ℕ) where
  abbrev setting : Result State Refusal
  setting = setup_answer p r (length ring) (length cells)

  pub record Began (s : State) (ring' cells' : List ℕ) : Type 0 where
    pub answered : setting ≡ Ok s
    pub inside : pixel_inside p column row ≡ true
    pub chosen : s.chosen ≡ p
    pub world : world_of s ring' cells' ≡ world_begun p r ring cells

  -- it did, where 18 does not apply
  pub ready : (t : Bool) → t ≡ (not (pixel_inside p column row) && is_ready setting) → t ≡ false → (a : Result State Refusal) → a ≡ setting
      → (ring' cells' : List ℕ) → ring' ≡ ring_begun p r ring cells → cells' ≡ cells_begun p r ring cells
      → (s : State) → a ≡ Ok s → Began s ring' cells'
  unfolding world_begun start_record
  ready t is_t passed a is_a ring' cells' is_ring is_cells s f =
      let g : setting ≡ Ok s = sym is_a ∙ f in
      let y : is_ready setting ≡ true = ap is_ready g in
      let st = ready_state p r (length ring) (length cells) s g in
      let (u, v) = ready_ring p r (length ring) (length cells) ring cells refl refl y in
      record {
        answered = g;
        inside = is_inside (pixel_inside p column row) (sym (rw y at is_t) ∙ passed);
        chosen = ap (λ (q : State). q.chosen) st;
        world = rw (st, is_ring ∙ u, is_cells ∙ v);
      }
    where
      is_inside : (b : Bool) → not b && true ≡ false → b ≡ true
      is_inside true e = refl
      is_inside false e = let z : ◌≡◌ {A = ℕ} 0 1 = cc in absurd (omega arith)

  -- what the steps from there on ask for
  pub begun_asks : (s : State) (ring' cells' : List ℕ) → Began s ring' cells' → length cells' ≡ length cells
      → (column < s.chosen.width) × (row < s.chosen.height) × (leb (pixel_count s.chosen) (length cells') ≡ true)
  unfolding pixel_inside start_record
  begun_asks s ring' cells' b l =
      let i = b.inside in
      let st = ready_state p r (length ring) (length cells) s b.answered in
      rw (st, l) (
        ltb-true column p.width (and_left (ltb column p.width) (ltb row p.height) i),
        ltb-true row p.height (and_right (ltb column p.width) (ltb row p.height) i),
        ready_enough p r (length ring) (length cells) (ap is_ready b.answered),
      )

-- 18, once the setup would begin
pixel_says : (a : Result State Refusal) (s : State) (inside : Bool) → a ≡ Ok s → inside ≡ false
    → (rest : Explanation) (after before after₂ before₂ : List ℕ) → (Err R.Pixel ≡ unless_refused (and_then_pixel a inside) rest)
    × ((before ≡ if_ready (and_then_pixel a inside) after before) × (before₂ ≡ if_ready (and_then_pixel a inside) after₂ before₂))
pixel_says a s inside e f rest after before after₂ before₂ = rw (e, f) (refl, (refl, refl))

-- THE ENTRY
module _ (p : Chosen) (r : Ranges) (ring cells tape : List ℕ) (steps column row : ℕ) where
  abbrev Says : Result Explanation Refusal → List ℕ → List ℕ → Type 0
  Says a ring' cells' =
      (a ≡ explained p r ring cells tape steps column row)
      × ((ring' ≡ ring_explained p r ring cells tape steps column row) × (cells' ≡ cells_explained p r ring cells tape steps column row))

  abbrev answer : Result State Refusal
  answer = setup_answer p r (length ring) (length cells)

  is_ready_lem : (a : Result State Refusal) → is_ready a ≡ true → (s : State) × (a ≡ Ok s)
  is_ready_lem (Ok s) e = (s, refl)
  is_ready_lem (Err why) e = let z : ◌≡◌ {A = ℕ} 0 1 = cc in absurd (omega arith)

  -- the pixel is refused
  pub refused_pixel : (t : Bool) → t ≡ (not (pixel_inside p column row) && is_ready answer) → t ≡ true → Says (Err R.Pixel) ring cells
  unfolding explained ring_explained cells_explained beginning
  refused_pixel t is_t e =
      let i = pixel_inside p column row in
      let g : not i && is_ready answer ≡ true = sym is_t ∙ e in
      let (s, b) = is_ready_lem answer (and_right (not i) (is_ready answer) g) in
      pixel_says answer s i b (is_not i (and_left (not i) (is_ready answer) g)) _ _ ring _ cells
    where
      is_not : (b : Bool) → not b ≡ true → b ≡ false
      is_not true e = let z : ◌≡◌ {A = ℕ} 0 1 = cc in absurd (omega arith)
      is_not false e = refl

  -- the setup is refused
  pub not_ready : (a : Result State Refusal) → a ≡ answer → (ring' cells' : List ℕ) → ring' ≡ ring_begun p r ring cells
      → cells' ≡ cells_begun p r ring cells → (why : Refusal) → a ≡ Err why → Says (Err why) ring' cells'
  unfolding explained ring_explained cells_explained beginning
  not_ready a is_a ring' cells' is_ring is_cells why f =
      let g : answer ≡ Err why = sym is_a ∙ f in
      let (u, v) = refused_ring p r (length ring) (length cells) ring cells refl refl (ap is_ready g) in
      rw g (refl, (is_ring ∙ u, is_cells ∙ v))

  -- what is said after the steps from a world on
  abbrev said_from : Chosen → World → Explanation
  said_from q w =
      let end = run_from steps w tape in
      explained_by (reason_after q column row end (history_from steps w tape [])) end end.ending

  -- it began, and these are the steps
  pub began_explains : (s : State) (ring' cells' : List ℕ) → Began p r ring cells column row s ring' cells'
      → (x : Explanation) (ring'' cells'' : List ℕ) → ExplainsFrom steps column row (world_of s ring' cells') tape x ring'' cells''
      → Says (Ok x) ring'' cells''
  unfolding explained ring_explained cells_explained beginning
  began_explains s ring' cells' b x ring'' cells'' e =
      let (f, g) = by_parts s.chosen (world_of s ring' cells') b.chosen b.world e.answer e.ring_left e.cells_left in
      rw (b.answered, b.inside) (ap Ok f, g)
    where
      by_parts : (q : Chosen) (w : World) → q ≡ p → w ≡ world_begun p r ring cells → x ≡ said_from q w
          → ring'' ≡ (run_from steps w tape).world.ring → cells'' ≡ (run_from steps w tape).world.cells
          → let z = world_begun p r ring cells in
          (x ≡ said_from p z) × ((ring'' ≡ (run_from steps z tape).world.ring) × (cells'' ≡ (run_from steps z tape).world.cells))
      by_parts q w f g h i j = (rw (f, g) at h, (rw g at i, rw g at j))
