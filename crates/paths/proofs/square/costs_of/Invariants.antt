-- `costs_of` stores one cost a turn: the costs passed are those of the square.
use Prim.Native.Nat.{ℕ, ◌<◌}
use mathlib.Core.Path.{◌≡◌}
use lib.ListN.{length}
use Rattle.net.specs.Limits.{most_nodes}
use Rattle.paths.specs.inner.Column.{entry_at}
use Rattle.paths.specs.inner.Square.{cell}
use Rattle.paths.proofs.square.costs_of.Given as goal

abbrev pub invariant-loop-d : goal.invariant-loop-d
invariant-loop-d l =
    (length l.costs ≡ most_nodes) × ((e : ℕ) → e < l.d → entry_at l.costs e ≡ cell l.square l.i e)
