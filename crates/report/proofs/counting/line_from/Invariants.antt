-- The walks from one source: below d all are counted, and the next is the walk to d, unless d is the source itself.
use Prim.Native.Nat.{ℕ}
use mathlib.Core.Path.{◌≡◌}
use mathlib.Core.List.{List}
use lib.ListN.{length}
use Rattle.graph.specs.Walk.{Course}
use Rattle.walk.specs.inner.Reading.{rows_checked, tables_checked}
use Rattle.report.specs.inner.Counting.{course_at, line_below}
use Rattle.report.specs.declared.counting.Line.{Line}
use Rattle.report.proofs.counting.line_from.Given as goal

-- the walks to the destinations below d have been counted
pub record Below (s : ℕ) (course : ℕ → Course) (trace₀ : List ℕ) (sum₀ : Line) (trace : List ℕ) (sum : Line) (d : ℕ) : Type 0 where
  pub same_trace : length trace ≡ length trace₀
  pub sums : sum ≡ line_below d s course sum₀

abbrev pub invariant-loop-d : goal.invariant-loop-d
invariant-loop-d l =
    Below l.source.0
    (course_at (rows_checked l.checked) (tables_checked l.checked) l.failure l.source.0)
    l.initial.trace l.initial.sum l.trace l.sum l.d
