-- `keys_of` tries each link by the column without it. The loop's invariant: the set is that of the key links below k. The entries
-- that it reads are those of nodes: the interface's two ends, and the ends of link k.
use Rattle.net.specs.Lent.{rows_lent}
use Rattle.net.specs.Rows.{network_of}
use Rattle.tables.specs.inner.Detours.{KeysBelow}
use Rattle.tables.proofs.key.keys_of.Given as goal

abbrev pub invariant-loop-k : goal.invariant-loop-k
invariant-loop-k l =
    KeysBelow (network_of (rows_lent l.network.rows)) l.fn.destination.0 l.h.0 l.k l.keys
