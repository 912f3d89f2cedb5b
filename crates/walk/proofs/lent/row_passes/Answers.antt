-- A byte's answer makes the bytes passed one more, or the row's answer.
use mathlib.Core.Path.{sym, ◌∙◌}
use Rattle.walk.proofs.Below.{row_is, below_none, below_one_more, below_fails, below_all}
use Rattle.walk.proofs.lent.row_passes.Goals as goal

pub loop-d-init : goal.loop-d-init
loop-d-init c = below_none _

pub returns-then-not-byte_passes : goal.returns-then-not-byte_passes
returns-then-not-byte_passes c =
    sym (row_is _ _ _ _
    ∙ below_fails _ _ _ c.loop-d-test.true (sym c.byte_passes.ensures ∙ c.if-not-byte_passes.true))

pub loop-d-preserved : goal.loop-d-preserved
loop-d-preserved c =
    below_one_more _ _ c.loop-d.invariant (sym c.byte_passes.ensures ∙ c.if-not-byte_passes.false)

pub returns : goal.returns
returns c =
    let at = c.loop-d in
    sym (row_is _ _ _ _ ∙ below_all _ _ _ at.auto.d-end c.loop-d-test.false at.invariant)
