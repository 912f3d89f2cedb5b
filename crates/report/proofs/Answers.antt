-- What the public entries answer by the one verdict on network, failure and tables: its number and place and no figure, or the figures.
use mathlib.Core.Path.{◌≡◌}
use mathlib.Core.Logic.{◌≢◌}
use borrow.Author.Tests.{eq-eqb, ne_eqb}
use lib.ListN.{length}
use Rattle.net.specs.Refusals.{accepted}
use Rattle.net.specs.Rows.{Rows}
use Rattle.net.specs.Failure.{failure_number}
use Rattle.net.specs.Verdict.{Verdict}
use Rattle.net.specs.declared.failure.Failure.{Failure}
use Rattle.tables.specs.Lent.{LentTables}
use Rattle.walk.specs.Lent.{lent_verdict}
use Rattle.report.specs.Line.{no_line, line_of, figures_by, figures_answer}
use Rattle.report.specs.Lines.{lines_over, lines_held, lines_refused, lines_answer}
use Rattle.report.specs.declared.counting.Line.{Line}

module _ (R : Rows) (T : LentTables) where
  -- a failure line
  module _ (failure : Failure) {v : Verdict} (judged : v ≡ lent_verdict R T (failure_number (length R.low) failure)) where
    pub figures_refused : {line : Line} → line ≡ no_line → v.number ≢ accepted
        → record { number = v.number; place = v.place; line = line } ≡ figures_answer R T failure
    unfolding figures_answer figures_by
    figures_refused none h = rw (← judged, ne_eqb v.number accepted h, none)

    pub figures_made : {line : Line} → line ≡ line_of R T failure → v.number ≡ accepted
        → record { number = accepted; place = 0; line = line } ≡ figures_answer R T failure
    unfolding figures_answer figures_by
    figures_made counted e = rw (← judged, eq-eqb v.number accepted e, counted)

  -- all lines
  module _ {v : Verdict} (judged : v ≡ lent_verdict R T accepted) where
    pub lines_refused_lem : v.number ≢ accepted → lines_refused v ≡ lines_answer R T
    unfolding lines_answer
    lines_refused_lem h = rw (← judged, ne_eqb v.number accepted h)

    pub lines_made : v.number ≡ accepted → lines_held (length R.low) (lines_over (length R.low) (line_of R T)) ≡ lines_answer R T
    unfolding lines_answer
    lines_made e = rw (← judged, eq-eqb v.number accepted e)
