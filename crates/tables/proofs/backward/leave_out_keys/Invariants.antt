-- `leave_out_keys` goes over the destinations: with those before d passed, the next call finds the bytes for d as they were filled first.
use Rattle.net.specs.Lent.{rows_lent}
use Rattle.tables.proofs.LeavingDestinations.{DestinationsPassed}
use Rattle.tables.proofs.backward.leave_out_keys.Given as goal

abbrev pub invariant-loop-d : goal.invariant-loop-d
invariant-loop-d l =
    DestinationsPassed (rows_lent l.network.rows) l.d l.initial.table l.table
