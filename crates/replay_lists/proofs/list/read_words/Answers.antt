-- A group more at each pass, or what is left where the list or the reading ends.
use Rattle.std.proofs.Common.{rules, arith, ◌≡◌, ◌+◌, ◌-◌, length}
use Rattle.replay_lists.proofs.WordLaws.{group_more, group_cut}
use Rattle.replay_lists.proofs.list.read_words.Goals as goal
use borrow.Rule.Slice.PartMut.{put_mid}

pub returns-in_err-read_group-clause-err : goal.returns-in_err-read_group-clause-err
returns-in_err-read_group-clause-err g c =
    let words = put_mid c.groups.done (c.groups.done + c.min.result - c.groups.done) c.groups.words c.read_group.new.words in
    let long : length words ≡ length c.groups.words = search rules in
    let before = c.groups.invariant in
    let fewer = group_cut _ _ _ c.groups.words c.groups.done (length c.read_group.new.words) (length words) before.within (omega arith) before.spelled c.in_err-read_group.ensures.err in
    search rules

pub returns-then-not-branch-clause-end : goal.returns-then-not-branch-clause-end
returns-then-not-branch-clause-end g c =
    let words = put_mid c.groups.done (c.groups.done + c.min.result - c.groups.done) c.groups.words c.read_group.new.words in
    let long : length words ≡ length c.groups.words = search rules in
    let before = c.groups.invariant in
    let end = c.in_ok-read_group.ensures.end (search rules) in
    λ _. (end.0, group_cut _ _ _ c.groups.words c.groups.done (length c.read_group.new.words) (length words) before.within (omega arith) before.spelled end.1)

pub groups-preserved : goal.groups-preserved
groups-preserved g c =
    let words = put_mid c.groups.done (c.groups.done + c.min.result - c.groups.done) c.groups.words c.read_group.new.words in
    let long : length words ≡ length c.groups.words = search rules in
    let before = c.groups.invariant in
    record {
      within = omega arith;
      spelled = group_more _ _ _ c.groups.words c.read_group.new.words c.groups.done _ _ before.within (omega arith) before.spelled (c.in_ok-read_group.ensures.all (search rules));
    }
