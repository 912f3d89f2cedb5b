-- A network in memory as a batch has it (compare/FORMAT.md), and the rows that it lends.
use Rattle.std.specs.Prelude.{take}
use Rattle.net.specs.Rows.{Rows as NetworkRows}
use Rattle.text.specs.declared.Rows.{Rows}

-- each row as far as its length goes
abbrev pub rows_of : Rows → NetworkRows
rows_of rows =
    record {
      nodes = rows.nodes;
      low = take rows.lows rows.low;
      high = take rows.highs rows.high;
      weight = take rows.weights rows.weight;
    }
