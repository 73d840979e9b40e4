-- The notes are the moments that the history has: step by step, and so after a whole run. Assumes nothing.
use mathlib.Core.Path.{◌≡◌, refl, sym, ap₂, ◌∙◌}
use mathlib.Core.Bool.{Bool, true, false, cond, ◌&&◌, ◌||◌}
use mathlib.Core.List.{List, [], ◌∷◌}
use Prim.Native.Nat.{ℕ, suc, ◌-◌, ◌*◌, ◌≤◌, ◌<◌}
use native.Mathlib.Omega.{arith}
use lib.ListN.{length, take}
use Rattle.std.specs.Prelude.{Option, Some, None}
use Rattle.std.specs.Option.{unwrap_or}
use Rattle.base.specs.Lists.{Every}
use Rattle.base.specs.Places.{any_of, first_from, last_from, last_value, latest_number, latest_value}
use Rattle.base.proofs.Test.{cases, cond_yes, cond_no}
use Rattle.base.proofs.ListLaws.{every_also}
use Rattle.base.proofs.PlacesNamed.{first_none}
use Rattle.image.specs.Cell.{meanings}
use Rattle.image.specs.Range.{in_stretch, holds_cell, rectangle_of}
use Rattle.image.proofs.RangeLaws.{cell_row, cell_column, rectangle_covers}
use Rattle.queue.specs.declared.Block.{Block}
use Rattle.decide.specs.declared.Chosen.{Chosen}
use Rattle.decide.specs.Damage.{sound}
use Rattle.decide.specs.Children.{children_of}
use Rattle.decide.specs.Verdict.{is_marking}
use Rattle.decide.specs.declared.verdict.Outcome.{Outcome}
use Rattle.plan.specs.Plan.{outcomes}
use Rattle.plan.proofs.CoverLaws.{covers}
use Rattle.plan.proofs.PlaceLaws.{Lies, lies_narrower, children_lie}
use Rattle.explain.specs.declared.look.Look.{Look}
use Rattle.explain.specs.declared.look.Mark.{Mark}
use Rattle.explain.specs.declared.noting.Notes.{Notes}
use Rattle.explain.specs.History.{Answered, answered_by, PastStep}
use Rattle.explain.specs.Reasons.{covers_at, point_of, moment_at, marks_here, denies_here, finds_none}
use Rattle.explain.specs.Reasons.{marks_in, takes_here, gives_up_here, last_mark, last_point, last_denial, last_giving_up}
use Rattle.explain.specs.NotesComputed.{later_moment, marked_child, marked_point, with_look, noted_block}
use Rattle.explain.proofs.LookMeans.{named, first_named, LookMeans, look_means}

-- the moments of a history, as they are noted
abbrev pub notes_of : Chosen → (Block → Bool) → List PastStep → Notes
notes_of p here h = record { mark = last_mark p here h; point = last_point p here h; denial = last_denial p here h; up = last_giving_up p here h }

-- a place, or 0 where there is none
first_or_none : {A : Type 0} (f : A → Bool) (l : List A) → unwrap_or (first_named f 1 l) 0 ≡ first_from f 1 l
first_or_none f l = cases (any_of f l) (λ e. rw e) (λ e. rw e (sym (first_none f 1 l e)))

-- A STEP MORE

module _ (p : Chosen) (here : Block → Bool) (e : PastStep) (h : List PastStep) where
  -- its number, and what it says of the pixel
  abbrev number : ℕ
  number = suc (length h)

  abbrev last_marking : PastStep → ℕ
  last_marking e = last_from (marks_here p here) 0 1 e.answers

  abbrev point_marking : ℕ
  point_marking = last_value (marks_here p here) (λ (a : Answered). point_of a.outcome) 0 e.answers

  abbrev first_denied : ℕ
  first_denied = first_from (denies_here p here) 1 e.answers

  abbrev first_stuck : PastStep → ℕ
  first_stuck e = first_from (finds_none p e) 1 e.answers

  abbrev marking : Bool → Option Mark
  marking s = cond s (Some (record { child = last_marking e; point = point_marking })) None

  -- one that took a covering block, by the look at its children
  step_noted : here e.block ≡ true → (r : Look) → LookMeans p here r e → with_look (notes_of p here h) number r ≡ notes_of p here (e ∷ h)
  unfolding last_mark last_point last_denial last_giving_up latest_number latest_value marks_in takes_here gives_up_here
  step_noted covered r m =
      rw (m.mark, m.denied, m.stuck, first_or_none (denies_here p here) e.answers, covered)
      (by_tests (any_of (marks_here p here) e.answers) (any_of (finds_none p e) e.answers))
    where
      by_tests : (s t : Bool) → ◌≡◌ {A = Notes}
          (record {
            mark = later_moment number (marked_child (marking s)) (last_mark p here h);
            point = marked_point (marking s) (last_point p here h);
            denial = moment_at number first_denied;
            up = later_moment number (named t (first_stuck e)) (last_giving_up p here h);
          })
          (record {
            mark = moment_at (cond s number (latest_number (marks_in p here) h))
                (cond s (last_marking e) (latest_value (marks_in p here) last_marking 0 h));
            point = cond s point_marking (last_point p here h);
            denial = moment_at number first_denied;
            up = moment_at (cond t number (latest_number (gives_up_here p here) h))
                (cond t (first_stuck e) (latest_value (gives_up_here p here) first_stuck 0 h));
          })
      by_tests true true = refl
      by_tests true false = refl
      by_tests false true = refl
      by_tests false false = refl

  -- one that took no covering block changes nothing
  step_elsewhere : here e.block ≡ false → any_of (marks_here p here) e.answers ≡ false → notes_of p here h ≡ notes_of p here (e ∷ h)
  unfolding last_mark last_point last_denial last_giving_up latest_number latest_value marks_in takes_here gives_up_here
  step_elsewhere away none = rw (away, none)

-- WHERE THE BLOCK LIES: a child covers only what its parent covers

module _ (p : Chosen) (column row : ℕ) (in_width : column < p.width) (in_height : row < p.height) where
  covers_as : (b : Block) → covers_at p column row b ≡ covers b column (p.height - 1 - row)
  unfolding covers_at holds_cell
  covers_as b =
      let y = p.height - 1 - row in
      let r = rectangle_of b.x b.y p.width p.height in
      let back : p.height - 1 - y ≡ row = omega arith in
      sym (ap₂ (λ (i j : ℕ). in_stretch r.left r.right i && in_stretch r.top r.bottom j)
      (cell_column p.width p.height column y in_width) (cell_row p.width p.height column y in_width ∙ back))
      ∙ rectangle_covers b.x b.y p.width p.height column y in_width (omega arith)

  child_elsewhere : (b c : Block) → Lies b c → covers_at p column row b ≡ false → covers_at p column row c ≡ false
  child_elsewhere b c l away =
      cases (covers_at p column row c)
      (λ e. absurd (clash (sym away ∙ covers_as b ∙ lies_narrower b c l column (p.height - 1 - row) (sym (covers_as c) ∙ e))))
      (λ e. e)
    where
      clash : false ≡ true → ⊥
      clash e = let z : ◌≡◌ {A = ℕ} 0 1 = cc in omega arith

  none_marks : (cs : List Block) (vs : List ℕ) (os : List Outcome) → Every (λ c. covers_at p column row c ≡ false) cs
      → any_of (marks_here p (covers_at p column row)) (answered_by cs vs os) ≡ false
  unfolding any_of answered_by marks_here
  none_marks [] vs os h = refl
  none_marks (c ∷ cs) [] os h = refl
  none_marks (c ∷ cs) (v ∷ vs) [] h = refl
  none_marks (c ∷ cs) (v ∷ vs) (o ∷ os) h =
      rw h.0 (ap₂ (λ (s t : Bool). s || t) (never (is_marking o)) (none_marks cs vs os h.1))
    where
      never : (t : Bool) → t && false ≡ false
      never true = refl
      never false = refl

  -- THE NOTES with a step on a sound block, with a cell for each pixel and a verdict for each child
  module _ (b : Block) (cells tape : List ℕ) (ok : sound p b ≡ true) (enough : p.width * p.height ≤ length cells)
      (many : length (take (length (children_of p b)) tape) ≡ length (children_of p b)) where
    abbrev taken : PastStep
    taken = record {
      block = b;
      answers = answered_by (children_of p b) (take (length (children_of p b)) tape)
          (outcomes p (meanings cells) (children_of p b) (take (length (children_of p b)) tape));
    }

    abbrev covering : Block → Bool
    covering = covers_at p column row

    pub block_noted : (h : List PastStep)
        → noted_block p column row cells tape (suc (length h)) b (notes_of p covering h) ≡ notes_of p covering (taken ∷ h)
    unfolding noted_block
    block_noted h =
        cases (covering b)
        (λ e. cond_yes (covering b) _ _ e ∙ step_noted p covering taken h e _ (look_means p covering b cells tape ok enough many))
        (λ e. (let away : Every (λ c. covering c ≡ false) (children_of p b) =
        every_also (Lies b) (λ c. covering c ≡ false) (λ c l. child_elsewhere b c l e) (children_of p b) (children_lie p b ok) in
        cond_no (covering b) _ _ e ∙ step_elsewhere p covering taken h e (none_marks (children_of p b) _ _ away)))
