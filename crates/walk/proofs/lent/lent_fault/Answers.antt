-- The network, the question and the tables, in the order of the definition, by their numbers.
use mathlib.Core.Path.{refl, sym, ap, ◌∙◌}
use Rattle.net.proofs.Told.{number_refuses}
use Rattle.net.specs.Lent.{rows_lent}
use Rattle.net.specs.Told.{number_told}
use Rattle.walk.specs.Lent.{tables_verdict}
use Rattle.walk.proofs.Told.{handed}
use Rattle.walk.proofs.Verdicts.{number_of, network_refused, question_refused, tables_decide}
use Rattle.walk.proofs.lent.lent_fault.Goals as goal

pub returns-in-Err : goal.returns-in-Err
returns-in-Err c = ap number_of (network_refused _ _ _ c.in-Err.ensures.refusal (number_refuses c.in-Err.refused.refusal))

pub returns-in_err-asked : goal.returns-in_err-asked
returns-in_err-asked c =
    let asked = ap number_told c.in_err-asked.was in
    ap number_told (handed _ _ c.from_residual.ensures.1)
    ∙ sym asked
    ∙ ap number_of
    (question_refused _ _ _ c.in-Ok.ensures.refusal refl (λ none. number_refuses c.in_err-asked.field-0.0 (sym asked ∙ none)))

pub returns : goal.returns
returns c =
    ap number_of
    (c.check_tables.ensures
    ∙ (λ t. tables_verdict (rows_lent (c.in-Ok.ensures.same_rows t))
    (record { routing = c.args.routing.now; forwarding = c.args.forwarding.now; backwarding = c.args.backwarding.now }))
    ∙ tables_decide _ _ _ c.in-Ok.ensures.refusal refl (ap number_told c.in_ok-asked.was))
