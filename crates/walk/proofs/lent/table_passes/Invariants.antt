-- The loop's invariant: every row passed is accepted, at whatever nodes decide the rows as the caller says. A row is wholly in the table.
use Prim.Native.Nat.{ℕ}
use Rattle.walk.specs.inner.Reading.{Decides}
use Rattle.walk.proofs.Below.{RowsPassed}
use Rattle.walk.proofs.lent.table_passes.Given as goal

abbrev pub invariant-loop-row : goal.invariant-loop-row
invariant-loop-row g l =
    (deciding : ℕ → ℕ) → Decides (goal.F-post g l.decider) l.rows deciding → RowsPassed l.n l.network.rows.low.now l.network.rows.high.now deciding l.table l.row
