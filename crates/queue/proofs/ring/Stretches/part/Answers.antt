-- `part` meets its contract: each of its three answers is a law of `RingLaws`, and so is where it lies. Assumes
-- nothing.
use Rattle.queue.proofs.RingLaws.{part_older, part_newer, part_end, place_older, place_newer, place_end}
use Rattle.queue.proofs.ring.Stretches.part.Goals as goal

pub returns-then-at-self : goal.returns-then-at-self
returns-then-at-self c = record { bytes = part_older _ _ _ c.if-at-self.true; place = place_older _ _ _ _ _ c.if-at-self.true }

pub returns-then-off-self : goal.returns-then-off-self
returns-then-off-self c =
    record { bytes = part_newer _ _ _ c.if-at-self.false; place = place_newer _ _ _ _ _ c.if-at-self.false c.if-off-self.true }

pub returns : goal.returns
returns c =
    let h = c.if-at-self.false in
    let k = c.if-off-self.false in
    record { bytes = part_end _ _ _ h k; place = place_end _ _ _ _ _ h k }
