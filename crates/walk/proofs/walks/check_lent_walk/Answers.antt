-- The refusals of network, question and tables come first, then the trace is held against the hop limit.
use mathlib.Core.Path.{refl, ap, ◌∙◌}
use Rattle.net.specs.Told.{verdict_of, told}
use Rattle.net.proofs.Told.{number_refuses}
use Rattle.walk.specs.Lent.{lent_verdict}
use Rattle.walk.proofs.Asking.{asked_as_start}
use Rattle.walk.proofs.Told.{handed}
use Rattle.walk.proofs.Verdicts.{walk_lent_refused, walk_trace_refused, walk_trace_taken}
use Rattle.walk.proofs.walks.check_lent_walk.Goals as goal

pub returns-in_err-checked-clause-refusal : goal.returns-in_err-checked-clause-refusal
returns-in_err-checked-clause-refusal c =
    ap told (handed _ _ c.from_residual.ensures.1)
    ∙ walk_lent_refused _ _ _ _ _ _ (c.in_err-checked.ensures.refusal ∙ ap (lent_verdict _ _) (c.check_step.ensures ∙ asked_as_start _ _ _ _))
    (number_refuses c.in_err-checked.field-0.0.refusal)

pub returns-then-trace-limit-clause-refusal : goal.returns-then-trace-limit-clause-refusal
returns-then-trace-limit-clause-refusal c =
    ap verdict_of c.at.ensures
    ∙ walk_trace_refused _ _ _ _ _ _ (c.in_ok-checked.ensures.refusal ∙ ap (lent_verdict _ _) (c.check_step.ensures ∙ asked_as_start _ _ _ _)) refl c.if-trace-limit.true

pub returns-clause-refusal : goal.returns-clause-refusal
returns-clause-refusal c =
    walk_trace_taken _ _ _ _ _ _ (c.in_ok-checked.ensures.refusal ∙ ap (lent_verdict _ _) (c.check_step.ensures ∙ asked_as_start _ _ _ _)) refl c.if-trace-limit.false
