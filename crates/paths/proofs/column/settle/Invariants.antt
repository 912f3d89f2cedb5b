-- `settle` meets `settled`: all rounds are those left from round r on, over the column so far; each goes through the links the other way
-- round than the one before.
use Prim.Native.Nat.{◌-◌}
use mathlib.Core.Bool.{true}
use mathlib.Core.Path.{◌≡◌}
use Rattle.net.specs.Lent.{rows_lent}
use Rattle.paths.specs.inner.Rounds.{rounds_from}
use Rattle.paths.proofs.column.settle.Given as goal

abbrev pub invariant-loop : goal.invariant-loop
invariant-loop l =
    let R = rows_lent l.network.rows in
    rounds_from (R.nodes - 1) R l.offering true l.initial.column ≡ rounds_from (R.nodes - l.counter) R l.offering l.upward l.column
