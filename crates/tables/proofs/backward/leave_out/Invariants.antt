-- `leave_out` goes over the nodes: the entries of the interfaces that enter the nodes passed are right, the others are as they were filled
-- first. Where key links are kept for a node, the interface that it would send straight back over has a row of the table.
use Rattle.net.specs.Lent.{rows_lent}
use Rattle.tables.proofs.LeavingNodes.{NodesPassed}
use Rattle.tables.proofs.backward.leave_out.Given as goal

abbrev pub invariant-loop-i : goal.invariant-loop-i
invariant-loop-i l =
    NodesPassed (rows_lent l.network.rows) l.destination.0 l.i l.initial.table l.table
