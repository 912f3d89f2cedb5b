-- Past the failed link the backwarding entry is looked up: nothing there, or a link that has failed too, is dropped.
use mathlib.Core.Path.{refl}
use mathlib.Core.Logic.{inl, inr}
use Rattle.walk.proofs.Unblocked.{around_open, around_shut}
use Rattle.walk.proofs.Grounds as grounds
use Rattle.walk.proofs.Verdicts.{checked_ready}
use Rattle.walk.proofs.Stepping.{around_absent, around_drops, around_crosses}
use Rattle.walk.proofs.steps.step_around.Goals as goal

pub returns-in_default : goal.returns-in_default
returns-in_default c leaves =
    let ready = checked_ready c.args.checked.now in
    elim (around_shut _ _ c.in_default.ensures) [
      | inl none ↦ around_absent ready _ _ c.args.f.0 leaves (grounds.absent ready _ _ refl none)
      | inr shut ↦ around_drops ready _ _ c.args.f.0 leaves _ (grounds.leads ready _ _ refl _ _ shut.is).entry shut.down
    ]

pub returns : goal.returns
returns c leaves =
    let ready = checked_ready c.args.checked.now in
    let found = around_open _ _ c.in-Some.ensures in
    let leads = grounds.leads ready _ _ refl _ _ found.is in
    around_crosses ready _ _ c.args.f.0 leaves _ leads.entry _ leads.enters found.stands
