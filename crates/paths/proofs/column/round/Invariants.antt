-- `round` meets `round_of`: the whole round is what is left of it after j turns, over the column so far. Each turn is that of a link, and
-- the ends of a link are places of the column.
use Prim.Native.Nat.{◌-◌}
use mathlib.Core.Path.{◌≡◌}
use lib.ListN.{length}
use Rattle.net.specs.Lent.{rows_lent}
use Rattle.net.specs.Limits.{most_nodes}
use Rattle.paths.specs.inner.Rounds.{round_from, round_of}
use Rattle.paths.proofs.column.round.Given as goal

abbrev pub invariant-loop-j : goal.invariant-loop-j
invariant-loop-j l =
    let R = rows_lent l.network.rows in
    (length l.next ≡ most_nodes)
    × (round_of R.low R.high R.weight l.offering l.upward l.initial.next
    ≡ round_from (length R.low - l.j) R.low R.high R.weight l.offering l.upward l.j (record { column = l.next; changed = l.changed }))
