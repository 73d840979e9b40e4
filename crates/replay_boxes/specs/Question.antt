-- What is asked by a question's words.
use Rattle.std.specs.Prelude.{List, ℕ, ◌%◌, get_or}
use Rattle.boxes.specs.declared.Padding.{Padding}
use Rattle.boxes.specs.declared.Edges.{Edges}
use Rattle.boxes.specs.declared.Plot.{Plot}
use Rattle.replay_lists.specs.Words.{interval_in}

-- a plot: its sides, its padding, its edges
abbrev pub padding_in : List ℕ → Padding
padding_in words =
    record {
      left = get_or words 3 0 % 4294967296;
      right = get_or words 4 0 % 4294967296;
      bottom = get_or words 5 0 % 4294967296;
      top = get_or words 6 0 % 4294967296;
    }

abbrev pub edges_in : List ℕ → Edges
edges_in words = record { left = interval_in words 7; right = interval_in words 9; bottom = interval_in words 11; top = interval_in words 13 }

abbrev pub plot_in : List ℕ → Plot
plot_in words =
    record {
      width = get_or words 1 0 % 4294967296;
      height = get_or words 2 0 % 4294967296;
      padding = padding_in words;
      edges = edges_in words;
    }
