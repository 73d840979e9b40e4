-- 19 words are 152 bytes.
use Rattle.std.proofs.Common.{rules, arith, ◌≡◌, length}
use Rattle.replay_lists.proofs.WordLaws.{words_read}
use Rattle.replay_boxes.proofs.QuestionEntry.next.Goals as goal

pub returns-in-Some-clause-ok : goal.returns-in-Some-clause-ok
returns-in-Some-clause-ok g c =
    let long : length c.in-Some.words ≡ 19 = search rules in
    words_read _ _ c.in-Some.words 152 (search rules) (omega arith)
