-- Of 0 the check says all; of another number the network decides, then the number.
use mathlib.Core.Path.{refl, ◌∙◌}
use native.Mathlib.Omega.{arith}
use Rattle.net.proofs.Told.{number_refuses}
use Rattle.walk.proofs.Verdicts.{network_refused, question_refused}
use Rattle.walk.proofs.lent.lent_verdict.Goals as goal

pub returns-in-Ok : goal.returns-in-Ok
returns-in-Ok c = c.unplaced.ensures ∙ question_refused _ _ _ c.in-Ok.ensures refl (λ e. omega (arith, e, c.if-number-eq0.false))

pub returns-in-Err : goal.returns-in-Err
returns-in-Err c = c.verdict_told-in-Err.ensures ∙ network_refused _ _ _ c.in-Err.ensures (number_refuses c.in-Err.refused.refusal)
