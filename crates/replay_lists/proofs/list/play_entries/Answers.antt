-- An entry more at each pass, or what is left where the list ends, or the reading or the playing fails.
use Rattle.std.proofs.Common.{rules}
use Rattle.replay_lists.specs.Reading.{Reads}
use Rattle.replay_lists.proofs.EntryLaws.{entry_more, entries_end, entry_fails, play_fails}
use Rattle.replay_lists.proofs.list.play_entries.Goals as goal

pub returns-in_err-entry-clause-err : goal.returns-in_err-entry-clause-err
returns-in_err-entry-clause-err g c =
    let some = entry_fails _ _ _ c.loop-played.played g.E.Entry.size c.args.most c.loop-played-test.true c.loop-played.invariant c.in_err-entry.ensures.err in
    search rules

pub returns-in_default-clause-ok : goal.returns-in_default-clause-ok
returns-in_default-clause-ok g c =
    (c.loop-played-test.true, entries_end _ _ _ c.loop-played.played g.E.Entry.size c.loop-played.invariant (search rules))

pub returns-in_err-play-clause-err : goal.returns-in_err-play-clause-err
returns-in_err-play-clause-err g c =
    let read : Reads g.E.Entry.size (g.R.Read.remaining c.loop-played.from) (g.R.Read.remaining c.next.new.from) = search rules in
    let some = play_fails _ _ _ c.loop-played.played g.E.Entry.size c.args.most c.loop-played-test.true c.loop-played.invariant read in
    search rules

pub loop-played-preserved : goal.loop-played-preserved
loop-played-preserved g c =
    let read : Reads g.E.Entry.size (g.R.Read.remaining c.loop-played.from) (g.R.Read.remaining c.next.new.from) = search rules in
    entry_more _ _ _ c.loop-played.played g.E.Entry.size c.loop-played.invariant read
