-- One check and one branch. Where nothing is refused, the checked tables are those lent, and the lines are those of the failures.
use mathlib.Core.Path.{refl, ap, ◌∙◌}
use lib.ListN.{length}
use Rattle.net.specs.Lent.{rows_lent}
use Rattle.net.proofs.Told.{number_refuses}
use Rattle.tables.specs.Lent.{tables_lent}
use Rattle.walk.proofs.Told.{handed}
use Rattle.report.specs.Line.{line_of}
use Rattle.report.specs.Lines.{lines_over, lines_held, lines_told}
use Rattle.report.proofs.Answers.{lines_refused_lem, lines_made}
use Rattle.report.proofs.totals.all_lines.Goals as goal

pub returns-in_err-checked : goal.returns-in_err-checked
returns-in_err-checked c =
    ap lines_told (handed _ _ c.from_residual.ensures.1)
    ∙ lines_refused_lem _ _ c.in_err-checked.ensures.refusal (number_refuses c.in_err-checked.field-0.0.refusal)

pub returns : goal.returns
returns c =
    let lent = c.in_ok-checked.ensures in
    c.lines_of.ensures
    ∙ (λ t.
    (let links = length (lent.same_network t).low.now in
    lines_held links (lines_over links (line_of (rows_lent (lent.same_network t)) (tables_lent (lent.same_tables t))))))
    ∙ lines_made _ _ lent.refusal refl
