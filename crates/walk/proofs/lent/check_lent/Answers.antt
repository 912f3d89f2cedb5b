-- The number decides; the place is the network's, or 0 past it.
use mathlib.Core.Path.{sym, ap, ◌∙◌}
use Rattle.net.proofs.Told.{number_refuses}
use Rattle.net.specs.Told.{verdict_of, told}
use Rattle.walk.proofs.Told.{handed}
use Rattle.walk.proofs.Verdicts.{number_of, network_refused, past_network, nothing_refused}
use Rattle.walk.proofs.lent.check_lent.Goals as goal

pub returns-in_err-check_network-in-Err : goal.returns-in_err-check_network-in-Err
returns-in_err-check_network-in-Err c =
    ap told (handed _ _ c.from_residual.ensures.1)
    ∙ network_refused _ _ _ c.in_err-check_network-in-Err.ensures (number_refuses c.in_err-check_network-in-Err.field-0.0.refusal)

pub returns-in-Ok : goal.returns-in-Ok
returns-in-Ok c = nothing_refused _ _ _ c.in-Ok.ensures

pub returns-in_ok-check_network-in-Err : goal.returns-in_ok-check_network-in-Err
returns-in_ok-check_network-in-Err c =
    ap verdict_of c.at.ensures ∙ past_network _ _ _ (sym (ap number_of c.in_ok-check_network-in-Err.ensures)) c.in-Err.ensures
