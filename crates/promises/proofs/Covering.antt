-- That a block covers a pixel, in the words of `theory` and in those of `decide`: the same where its two levels agree. Assumes nothing.
use mathlib.Core.Path.{◌≡◌, sym, ◌∙◌}
use Rattle.base.proofs.Test.{T→≡, ≡→T}
use Rattle.theory.specs.Shapes.{begins_in, covers_along, covers_pixel}
use Rattle.theory.specs.Runs as Runs
use Rattle.base.specs.Event.{Event, marks, queues, gives_up}
use mathlib.Core.List.{List, [], ◌∷◌}
use Rattle.coordinate.specs.Axis.{pixel}
use Rattle.coordinate.proofs.Covering.{covers1}
use Rattle.queue.specs.declared.Block.{Block}
use Rattle.decide.specs.declared.Chosen.{Chosen}
use Rattle.plan.proofs.CoverLaws.{covers, Narrower}
use Rattle.plan.proofs.EventLaws.{EachEvent}
use Rattle.promises.specs.Chart.{Pixel, covers_in}

-- both coordinates of a block have one level
abbrev pub Level : Block → Type 0
Level b = b.x.rank ≡ b.y.rank

pub covers_as : (p : Chosen) (b : Block) (q : Pixel p) → Level b → covers_in p b q ≡ covers b q.x q.y
unfolding covers_pixel covers_along begins_in covers1 pixel
covers_as p b q e = rw (← e)

-- what covers less there covers less here
pub narrower_as : (p : Chosen) (b c : Block) → Level b → Level c → Narrower b c → Runs.Narrower (covers_in p) b c
unfolding Runs.Narrower
narrower_as p b c e f n q t = ≡→T (covers_as p b q e ∙ n q.x q.y (sym (covers_as p c q f) ∙ T→≡ (covers_in p c q) t))

-- of all that a step marks or queues
pub all_narrower : (p : Chosen) (b : Block) (es : List (Event Block)) → Level b → EachEvent Level es → EachEvent (Narrower b) es
    → Runs.AllNarrower (covers_in p) b es
unfolding Runs.AllNarrower
all_narrower p b [] e f n = tt
all_narrower p b (marks c ∷ es) e f n = (narrower_as p b c e f.0 n.0, all_narrower p b es e f.1 n.1)
all_narrower p b (queues c ∷ es) e f n = (narrower_as p b c e f.0 n.0, all_narrower p b es e f.1 n.1)
all_narrower p b (gives_up ∷ es) e f n = all_narrower p b es e f n
