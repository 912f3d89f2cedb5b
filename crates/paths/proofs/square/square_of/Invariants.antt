-- `square_of` stores one column a turn: those of the destinations passed show the best paths. At first every place holds the column of node
-- 0, which an accepted network has.
use Prim.Native.Nat.{ℕ, ◌<◌}
use mathlib.Core.Path.{◌≡◌}
use lib.ListN.{length}
use Rattle.graph.specs.Path.{All}
use Rattle.net.specs.Limits.{most_nodes}
use Rattle.net.specs.Lent.{rows_lent}
use Rattle.net.specs.Rows.{network_of}
use Rattle.paths.specs.inner.Column.{BestColumn}
use Rattle.paths.specs.inner.Square.{column_for}
use Rattle.paths.proofs.square.square_of.Given as goal

abbrev pub invariant-loop-d : goal.invariant-loop-d
invariant-loop-d l =
    (length l.square ≡ most_nodes)
    × ((e : ℕ) → e < l.d → BestColumn (network_of (rows_lent l.network.rows)) All e (column_for l.square e))
