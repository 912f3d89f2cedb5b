-- All walks of a failure: the sources below s are counted, each with every destination, and `line_from` adds those of s.
use Prim.Native.Nat.{ℕ, suc}
use mathlib.Core.Path.{◌≡◌}
use mathlib.Core.List.{List}
use lib.ListN.{length}
use Rattle.graph.specs.Walk.{Course}
use Rattle.net.specs.Limits.{report_hops}
use Rattle.walk.specs.inner.Reading.{rows_checked, tables_checked}
use Rattle.report.specs.inner.Counting.{course_at}
use Rattle.report.specs.declared.counting.Line.{Line}
use Rattle.report.proofs.Walks.{sources_below}
use Rattle.report.proofs.counting.line_of.Given as goal

-- the walks of the sources below s have been counted
pub record Below (n : ℕ) (course : ℕ → ℕ → Course) (trace : List ℕ) (line : Line) (s : ℕ) : Type 0 where
  pub room : length trace ≡ suc report_hops
  pub sums : line ≡ sources_below s n course

abbrev pub invariant-loop-s : goal.invariant-loop-s
invariant-loop-s l =
    Below l.checked.network.rows.nodes (course_at (rows_checked l.checked) (tables_checked l.checked) l.failure) l.trace l.line l.s
