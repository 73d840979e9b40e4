-- What the sentence about the share claims of the charts of ExampleSteps, worked out by computing, as in Claims. Assumes nothing.
use mathlib.Core.Path.{refl}
use native.Mathlib.Omega.{arith}
use lib.Dec.{lit≤}
use lib.Ieee.{le}
use Rattle.interval.specs.Bounds.{whole_bound, legal_interval, zero_as, put_interval}
use Rattle.image.specs.Cell.{meaning_of, reading, is_damaged, is_given_up, count_of, is_true, is_false, is_uncertain, tallied, share_of}
use Rattle.image.specs.Range.{holds_cell}
use Rattle.image.specs.Painting.{held_cells, some_of}
use Rattle.queue.specs.Block.{starting_last}
use Rattle.decide.specs.Damage.{legal_chosen}
use Rattle.implicit.specs.Record.{sound_last, sound_record}
use Rattle.implicit.specs.View.{counts_from, counts_answer}
use Rattle.promises.specs.Steps.{reads_in}
use Rattle.promises.specs.Sentences.{ShareWhole}
use Rattle.promises.proofs.ExampleSteps.{two, after, ran, right, one, waits, given_up, gave_up, only}
use Rattle.promises.proofs.Claims.{Claim, same, not_this, either}

-- nothing is queued, but the one pixel is given up: it is not settled, and the share is 0
pub given_up_not_settled : (s : ShareWhole one waits) → Claim (s 1 given_up gave_up)
unfolding counts_answer counts_from tallied share_of count_of is_true is_false is_uncertain is_given_up is_damaged some_of held_cells holds_cell reads_in reading meaning_of
    sound_record sound_last legal_chosen legal_interval whole_bound zero_as put_interval starting_last le
given_up_not_settled s = (
  record { trues = 0; falses = 0; uncertain = 1; givenup = 1; queued = 0; share = 0 },
  refl,
  ((λ e. absurd (omega arith)), (λ f. absurd (f only refl))),
)

-- after the second step one of the two pixels is settled, and the share is 500
pub half_settled : (s : ShareWhole two (after 0)) → Claim (s 2 (after 2) (ran 2 (lit≤ tt)))
unfolding counts_answer counts_from tallied share_of count_of is_true is_false is_uncertain is_given_up is_damaged some_of held_cells holds_cell reads_in reading meaning_of
    sound_record sound_last legal_chosen legal_interval whole_bound zero_as put_interval starting_last le
half_settled s = (
  record { trues = 0; falses = 1; uncertain = 1; givenup = 0; queued = 1; share = 500 },
  refl,
  ((λ e. absurd (omega arith)), (λ f. absurd (f right refl))),
)

-- and after the third both are
pub both_settled : (s : ShareWhole two (after 0)) → Claim (s 3 (after 3) (ran 3 (lit≤ tt)))
unfolding counts_answer counts_from tallied share_of count_of is_true is_false is_uncertain is_given_up is_damaged some_of held_cells holds_cell reads_in reading meaning_of
    sound_record sound_last legal_chosen legal_interval whole_bound zero_as put_interval starting_last le same
both_settled s = (
  record { trues = 1; falses = 1; uncertain = 0; givenup = 0; queued = 0; share = 1000 },
  refl,
  ((λ e. either _ (not_this _ _ tt) (not_this _ _ tt)), (λ f. refl)),
)
