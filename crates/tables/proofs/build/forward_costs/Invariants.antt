-- `forward_costs` stores one cost a turn: the costs passed are those to forward by.
use Prim.Native.Nat.{ℕ, ◌<◌}
use mathlib.Core.Path.{◌≡◌}
use lib.ListN.{length}
use Rattle.net.specs.Limits.{most_nodes}
use Rattle.paths.specs.inner.Column.{entry_at}
use Rattle.tables.specs.inner.Detours.{forward_cost, kept_at}
use Rattle.tables.proofs.build.forward_costs.Given as goal

abbrev pub invariant-loop-d : goal.invariant-loop-d
invariant-loop-d l =
    (length l.costs ≡ most_nodes)
    × ((e : ℕ) → e < l.d → entry_at l.costs e ≡ forward_cost l.h.0 (entry_at l.all e) (kept_at l.kept e))
