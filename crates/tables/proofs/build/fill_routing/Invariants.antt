-- `fill_routing` fills a row a turn: with i rows filled, the next is the part of the table from i * n on.
use Rattle.net.specs.Lent.{rows_lent}
use Rattle.net.specs.Rows.{network_of}
use Rattle.tables.specs.Entry.{Filled, RoutingByte}
use Rattle.tables.proofs.build.fill_routing.Given as goal

abbrev pub invariant-loop-i : goal.invariant-loop-i
invariant-loop-i l =
    Filled l.n l.i (RoutingByte (network_of (rows_lent l.network.rows))) l.initial.table l.table
