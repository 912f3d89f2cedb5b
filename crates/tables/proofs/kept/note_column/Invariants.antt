-- `note_column` goes over the nodes: the places passed hold what is kept with the link tried, the others what was kept before. The ends of
-- the link are nodes, and so is the node after one whose best path crosses the link, so they are places of the columns.
use Rattle.net.specs.Lent.{rows_lent}
use Rattle.net.specs.Rows.{network_of}
use Rattle.tables.proofs.Noting.{NotedBelow}
use Rattle.tables.proofs.kept.note_column.Given as goal

abbrev pub invariant-loop-i : goal.invariant-loop-i
invariant-loop-i l =
    NotedBelow (network_of (rows_lent l.network.rows)) l.fn.destination.0 l.link.0 l.all l.initial.next l.i l.next
