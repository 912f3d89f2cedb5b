-- One check and one branch. Where nothing is refused, the checked tables are those lent, and the line is that of the failure.
use Prim.Native.Nat.{ℕ}
use mathlib.Core.Path.{◌≡◌, refl, ap, ◌∙◌}
use lib.ListN.{length}
use Rattle.net.specs.Lent.{rows_lent}
use Rattle.net.specs.Rows.{Rows}
use Rattle.net.specs.Failure.{failure_number}
use Rattle.net.specs.Verdict.{Verdict}
use Rattle.net.specs.declared.failure.Failure.{Failure}
use Rattle.net.proofs.Told.{number_refuses}
use Rattle.tables.specs.Lent.{LentTables, tables_lent}
use Rattle.walk.specs.Lent.{lent_verdict}
use Rattle.walk.proofs.Told.{handed}
use Rattle.report.specs.Line.{line_of, figures_told}
use Rattle.report.proofs.Answers.{figures_refused, figures_made}
use Rattle.report.proofs.counting.failure_line.Goals as goal

-- the verdict is that on the failure's number
asked : (R : Rows) (T : LentTables) (failure : Failure) {number : ℕ} {v : Verdict} → number ≡ failure_number (length R.low) failure
    → v ≡ lent_verdict R T number → v ≡ lent_verdict R T (failure_number (length R.low) failure)
asked R T failure numbered judged = judged ∙ ap (lent_verdict R T) numbered

pub returns-in_err-checked : goal.returns-in_err-checked
returns-in_err-checked c =
    ap figures_told (handed _ _ c.from_residual.ensures.1)
    ∙ figures_refused _ _ _ (asked _ _ _ c.check_failure.ensures c.in_err-checked.ensures.refusal)
    refl (number_refuses c.in_err-checked.field-0.0.refusal)

pub returns : goal.returns
returns c =
    let lent = c.in_ok-checked.ensures in
    figures_made _ _ _ (asked _ _ _ c.check_failure.ensures lent.refusal)
    (c.line_of.ensures ∙ (λ t. line_of (rows_lent (lent.same_network t)) (tables_lent (lent.same_tables t)) c.args.failure)) refl
