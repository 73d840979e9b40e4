-- How the replay counts its calls.
use Rattle.std.specs.Prelude.{◌≡◌, ℕ, ◌+◌}
use Rattle.replay_histories.specs.declared.tally.CallScore.{CallScore}

-- all calls counted so far
abbrev pub calls : CallScore → ℕ
calls t = t.agree + t.differ + t.before + t.wrong

-- one call more that agreed
abbrev pub with_agreed : CallScore → CallScore
with_agreed t = record { agree = t.agree + 1; differ = t.differ; before = t.before; wrong = t.wrong }

-- one call more that differed
abbrev pub with_different : CallScore → CallScore
with_different t = record { agree = t.agree; differ = t.differ + 1; before = t.before; wrong = t.wrong }

-- a part of the list is closed: its calls are those before the next part
abbrev pub closed : CallScore → CallScore
closed t = record { agree = 0; differ = 0; before = t.before + t.agree; wrong = t.wrong + t.differ }

-- a call counts as agreed if that is so, and as different if not
abbrev pub CountedBy : Type 0 → CallScore → CallScore → Type 0
CountedBy same t r = (same → r ≡ with_agreed t) × ((same → ⊥) → r ≡ with_different t)
