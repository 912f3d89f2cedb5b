-- What a caller lends, as the definitions speak of it.
use Rattle.net.specs.Rows.{Rows}
use Rattle.std.specs.Prelude.{take}
use Rattle.net.specs.declared.lent_rows.LentRows.{LentRows}
use Rattle.net.specs.declared.lent_rows.Network.{Network}

abbrev pub rows_lent : LentRows → Rows
rows_lent network = record { nodes = network.nodes; low = network.low.now; high = network.high.now; weight = network.weight.now }

-- the network that a reader's answer holds
abbrev pub rows_held : Network → Rows
rows_held network =
    record {
      nodes = network.nodes;
      low = take network.links network.low;
      high = take network.links network.high;
      weight = take network.links network.weight;
    }
