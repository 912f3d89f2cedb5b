-- `blank` meets `blanked`: the whole is what is left to blank from the place at hand on, over the column so far.
use Prim.Native.Nat.{◌-◌}
use mathlib.Core.Path.{◌≡◌}
use mathlib.Core.List.{◌++◌}
use lib.ListN.{drop}
use Rattle.paths.specs.inner.Rounds.{blank_from, blanked}
use Rattle.paths.proofs.column.blank.Given as goal

abbrev pub invariant-loop-cost : goal.invariant-loop-cost
invariant-loop-cost l =
    blanked l.fn.n l.out l.fn.column
    ≡ blank_from (l.fn.n - l.cost-index) l.out l.cost-index (record { column = l.cost-items ++ drop l.fn.n l.fn.column; changed = l.changed })
