-- The step at a node: at the destination it is delivered; else the entry is looked up, and its link is crossed or turned from.
use mathlib.Core.Path.{sym, ◌∙◌}
use borrow.Author.Tests.{true-eqb, false-eqb}
use Rattle.walk.specs.inner.Reading.{rows_checked, tables_checked}
use Rattle.walk.proofs.Grounds as grounds
use Rattle.walk.proofs.Verdicts.{checked_ready}
use Rattle.walk.proofs.Stepping.{step_delivered, step_lost, step_turns, step_crosses}
use Rattle.walk.proofs.steps.step_at.Goals as goal

pub returns-then-eq : goal.returns-then-eq
returns-then-eq c = step_delivered (checked_ready c.args.checked.now) c.args.question c.args.node.0 _ (true-eqb _ _ c.if-eq.ensures)

pub returns-in_default : goal.returns-in_default
returns-in_default c =
    step_lost (rows_checked c.args.checked.now) (tables_checked c.args.checked.now) c.args.question c.args.node.0 (false-eqb _ _ c.if-eq.ensures)
    (grounds.absent (checked_ready c.args.checked.now) _ _ c.look_up.ensures c.in_default.is)

pub step_around-requires : goal.step_around-requires
step_around-requires c =
    record { placed = c.requires; interface = (grounds.leads (checked_ready c.args.checked.now) _ _ c.look_up.ensures _ _ c.in-Some.is).below }

pub returns-then-blocked : goal.returns-then-blocked
returns-then-blocked c =
    let leads = grounds.leads (checked_ready c.args.checked.now) _ _ c.look_up.ensures _ _ c.in-Some.is in
    c.step_around.ensures leads.leaves
    ∙ step_turns (checked_ready c.args.checked.now) _ _ (false-eqb _ _ c.if-eq.ensures) _ _ leads.entry (sym c.if-blocked.ensures)

pub returns : goal.returns
returns c =
    let leads = grounds.leads (checked_ready c.args.checked.now) _ _ c.look_up.ensures _ _ c.in-Some.is in
    step_crosses (checked_ready c.args.checked.now) _ _ (false-eqb _ _ c.if-eq.ensures) _ _ leads.entry _ leads.enters (sym c.if-blocked.ensures)
