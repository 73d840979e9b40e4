-- A word more at each pass.
use Rattle.std.proofs.Common.{rules, arith, ◌≡◌, ◌<◌, ◌*◌, ℕ, get_or, take, drop, ◌∙◌}
use Rattle.std.proofs.lemmas.Nat.{le_bytes_8}
use Rattle.replay_lists.proofs.WordLaws.{part_small, word_more}
use Rattle.replay_lists.proofs.list.put_words.Goals as goal

pub loop-i-preserved : goal.loop-i-preserved
loop-i-preserved c =
    let i = c.loop-i.i in
    let eight = c.unwrap-spelling.result.now in
    let next : eight ≡ take 8 (drop (8 * i) c.args.bytes.now) = search rules in
    let byte : (k : ℕ) → get_or c.args.bytes.now k 0 < 256 = λ k. let h = c.type_inv.bytes k in search rules in
    let spells = le_bytes_8 eight _ (search rules) (rw next (part_small 8 (8 * i) c.args.bytes.now byte)) c.from_le_bytes.ensures in
    record { spelled = word_more c.loop-i.words c.args.bytes.now i c.from_le_bytes.result (omega arith) c.loop-i.invariant.spelled (spells ∙ next) }
