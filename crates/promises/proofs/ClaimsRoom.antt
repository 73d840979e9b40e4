-- What the sentences claim of the charts of ExampleRoom, worked out by computing, as in Claims. Assumes nothing.
use mathlib.Core.Path.{◌≡◌, refl}
use Prim.Native.Nat.{◌<◌}
use native.Mathlib.Omega.{arith}
use Rattle.base.specs.Bytes.{little_endian}
use Rattle.small.specs.Small.{tail_of, code_of, small_code}
use Rattle.image.specs.Cell.{meaning_of, reading}
use Rattle.queue.specs.Directions.{used_of}
use Rattle.queue.specs.Block.{starting_last}
use Rattle.queue.specs.Code.{coordinate_code, parameter_code, parameters_code, place_code, encode}
use Rattle.queue.specs.Queue.{queue_codes}
use Rattle.queue.specs.Ring.{older_stretch, newer_stretch, content}
use Rattle.implicit.specs.Room.{parameter_count, step_growth, enough_bytes}
use Rattle.implicit.specs.Move.{moved_record}
use Rattle.implicit.specs.Setup.{least_from, start_level, root_block, cut_first_in, first_blocks, first_bytes}
use Rattle.promises.specs.Steps.{no_steps, reads_in, GivenUpIn}
use Rattle.promises.specs.Sentences.{FalseRule}
use Rattle.promises.specs.EnoughRoom.{NeverSix}
use Rattle.promises.specs.Alike.{verdicts_by_step, RingsAlike}
use Rattle.promises.proofs.ExampleSteps.{two, after, one, waits, only}
use Rattle.promises.proofs.ExampleRoom.{nines, narrow, narrow_left, wide, wide_two, grown_two, step_move_step, step_step, shrunk, gave_up_moved}
use Rattle.promises.proofs.Claims.{Claim, same, not_this, was_given_up}

-- NONE OF THE FIRST n STEPS IS REFUSED BY 6: nine bytes are enough for no step, and of the step after none nothing is said; it is refused by 6
pub none_promised : (s : NeverSix narrow narrow_left) → Claim (s 0 0 narrow_left no_steps)
none_promised s less = absurd (omega arith)

-- for one step 32 are asked for
pub nine_too_few : (s : NeverSix narrow narrow_left) (first : 0 < 1) → Claim (s 1 0 narrow_left no_steps first)
unfolding enough_bytes step_growth parameter_count used_of first_bytes first_blocks cut_first_in root_block start_level least_from queue_codes encode
    place_code coordinate_code parameters_code parameter_code starting_last small_code code_of tail_of little_endian
nine_too_few s first enough = absurd (omega arith)

-- "a pixel reads False exactly if .. wasn't given up ..": moved to another ring, the pixel that was given up still was, and reads Uncertain
pub given_up_still : GivenUpIn one.chosen gave_up_moved only
unfolding GivenUpIn gave_up_moved
given_up_still = was_given_up

pub given_up_before : (s : FalseRule one waits) → Claim (s 1 shrunk gave_up_moved only)
unfolding reads_in reading meaning_of same
given_up_before s = (not_this _ _ tt, (λ (not_true, not_up, none). absurd (not_up given_up_still)))

-- A CHART THAT WAS MOVED equals one that was begun on the other ring, byte for byte but for the ring: the chart that was moved between its two steps, beside
-- the one on the long ring; the codes of the block that waits stand in them at bytes 5 and 10
pub same_verdicts : verdicts_by_step step_move_step ≡ verdicts_by_step step_step
unfolding verdicts_by_step step_move_step step_step
same_verdicts = refl

pub grown_as_begun : (s : RingsAlike two (after 0) nines wide) → Claim (s 2 2 grown_two wide_two step_move_step step_step same_verdicts)
unfolding moved_record content older_stretch newer_stretch
grown_as_begun s = record { cells = refl; state = refl; bytes = refl }
