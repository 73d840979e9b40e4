-- An entry more at each pass.
use Rattle.std.proofs.Common.{rules}
use Rattle.std.specs.Prelude.{Ok, Some}
use Rattle.replay_lists.proofs.PlayingLaws.{played_more}
use Rattle.replay_lists.proofs.closures.play_by.Goals as goal

pub loop-played-preserved : goal.loop-played-preserved
loop-played-preserved g c =
    let b = g.B.Playing in
    let read : b.gives c.loop-played.by c.loop-played.from (Ok (Some c.in-Some.entry)) c.next.new.from = search rules in
    let played : b.plays c.loop-played.by c.in-Some.entry (Ok tt) c.play.new.self = search rules in
    (c.play.ensures.again, played_more b.gives b.plays _ _ _ _ _ _ _ c.in-Some.entry c.loop-played.invariant.1 read played)
