-- The loop over the failed links: the lines so far stand first, no walks behind them, and the two sums are theirs.
use Rattle.walk.specs.inner.Reading.{rows_checked, tables_checked}
use Rattle.report.specs.Line.{line_of}
use Rattle.report.proofs.AllLines.{HeldUpTo}
use Rattle.report.proofs.totals.lines_of.Given as goal

abbrev pub invariant-loop-k : goal.invariant-loop-k
invariant-loop-k l = HeldUpTo (line_of (rows_checked l.checked) (tables_checked l.checked)) l.k l.lines l.delivered l.dropped
