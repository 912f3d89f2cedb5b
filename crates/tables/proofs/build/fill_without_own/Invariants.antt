-- `fill_without_own` fills two rows a turn, those of the link's two interfaces, by the square without the link: with 2 * k rows filled, the
-- next two are the parts of the table from 2 * k * n on. Each turn tries one link more, and what it shows is kept.
use Prim.Native.Nat.{◌*◌}
use Rattle.net.specs.Lent.{rows_lent}
use Rattle.net.specs.Rows.{network_of}
use Rattle.tables.specs.Entry.{Filled}
use Rattle.tables.specs.inner.Backward.{OwnByte}
use Rattle.tables.specs.inner.Detours.{SquareKept}
use Rattle.tables.proofs.build.fill_without_own.Given as goal

abbrev pub invariant-loop-k : goal.invariant-loop-k
invariant-loop-k l =
    Filled l.n (2 * l.k) (OwnByte (network_of (rows_lent l.network.rows))) l.initial.table l.table
    × SquareKept (network_of (rows_lent l.network.rows)) l.k l.all l.kept
