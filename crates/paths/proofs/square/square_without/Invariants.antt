-- `square_without` restarts one column a turn: those of the destinations passed show the best paths without the links of the set, if all
-- columns given showed them over all links; those to come are as given.
use Prim.Native.Nat.{ℕ, ◌≤◌, ◌<◌}
use mathlib.Core.Path.{◌≡◌}
use Rattle.graph.specs.Path.{All}
use Rattle.net.specs.Lent.{rows_lent}
use Rattle.net.specs.Rows.{network_of}
use Rattle.net.specs.inner.LinkSet.{Without}
use Rattle.paths.specs.inner.Column.{BestColumn}
use Rattle.paths.specs.inner.Square.{column_for, BestSquare}
use Rattle.paths.proofs.square.square_without.Given as goal

abbrev pub invariant-loop-column : goal.invariant-loop-column
invariant-loop-column l =
    let N = network_of (rows_lent l.network.rows) in
    ((e : ℕ) → l.column-index ≤ e → column_for l.column-items e ≡ column_for l.initial.column-items e)
    × (BestSquare N All l.initial.column-items → (e : ℕ) → e < l.column-index → BestColumn N (Without l.out) e (column_for l.column-items e))
