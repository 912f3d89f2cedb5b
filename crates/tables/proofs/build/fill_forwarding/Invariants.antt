-- `fill_forwarding` fills a row a turn: with h rows filled, the next is the part of the table from h * n on, by the costs to forward by of
-- the node that interface h enters.
use Rattle.net.specs.Lent.{rows_lent}
use Rattle.net.specs.Rows.{network_of}
use Rattle.tables.specs.Entry.{Filled, ForwardingByte}
use Rattle.tables.proofs.build.fill_forwarding.Given as goal

abbrev pub invariant-loop-h : goal.invariant-loop-h
invariant-loop-h l =
    Filled l.n l.h (ForwardingByte (network_of (rows_lent l.network.rows))) l.initial.table l.table
