-- What stands in the table of words.
use Rattle.std.specs.Prelude.{List, ℕ, ◌+◌, ◌/◌, ◌%◌, ◌≤◌, get_or}
use Rattle.replay_lists.specs.Words.{interval_in}
use Rattle.queue.specs.declared.Last.{Last}
use Rattle.decide.specs.declared.Chosen.{Chosen}
use Rattle.implicit.specs.declared.state.State.{State}
use Rattle.implicit.specs.declared.state.Ranges.{Ranges}
use Rattle.replay_histories.specs.declared.record.Ends.{Ends}

-- what a call is lent begins and ends in the tables
abbrev pub EndsInTables : Ends → Type 0
EndsInTables e =
    (e.ring ≤ 3072) ×
    (128 ≤ e.cells) × (e.cells ≤ 1536) ×
    (3072 ≤ e.verdicts) × (e.verdicts ≤ 3584) ×
    (3584 ≤ e.picture) × (e.picture ≤ 5120) ×
    (3072 ≤ e.other) × (e.other ≤ 4096) ×
    (e.numbers ≤ 512)

-- remembered values: two indices, then m, n, n_theta, t
unfoldable pub last_in : List ℕ → ℕ → Last
last_in w at =
    record {
      x = get_or w at 0;
      y = get_or w (at + 1) 0;
      m = interval_in w (at + 2);
      n = interval_in w (at + 4);
      theta = interval_in w (at + 6);
      t = interval_in w (at + 8);
    }

-- sides; the set and the reserved bytes
abbrev pub chosen_at : List ℕ → Chosen
chosen_at w =
    record {
      width = get_or w 0 0 % 4294967296;
      height = get_or w 1 0 % 4294967296;
      set = get_or w 2 0 % 256;
      reserved1 = get_or w 2 0 / 256 % 256;
      reserved2 = get_or w 2 0 / 65536 % 256;
      reserved3 = get_or w 2 0 / 16777216 % 256;
    }

-- the record
unfoldable pub state_at : List ℕ → State
state_at w =
    record {
      chosen = chosen_at w;
      taken = get_or w 3 0;
      queued = get_or w 4 0;
      len = get_or w 5 0;
      head = get_or w 6 0;
      used = get_or w 7 0;
      front = last_in w 8;
      back = last_in w 18;
    }

-- the ranges of the four parameters
unfoldable pub ranges_at : List ℕ → Ranges
ranges_at w = record { m = interval_in w 28; n = interval_in w 30; theta = interval_in w 32; t = interval_in w 34 }
