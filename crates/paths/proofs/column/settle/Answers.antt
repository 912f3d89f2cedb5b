use mathlib.Core.Path.{refl, sym, ◌∙◌}
use Rattle.paths.proofs.Steps.{rounds_begin, rounds_done, rounds_still, rounds_on}
use Rattle.paths.proofs.column.settle.Goals as goal

pub returns-in_default : goal.returns-in_default
returns-in_default c =
    let whole = rounds_begin _ _ _ c.offering_links-offering.ensures ∙ c.loop.invariant in
    sym (whole ∙ rounds_still _ _ _ c.loop.counter _ c.loop-test.true c.in_default.ensures refl)

pub loop-preserved : goal.loop-preserved
loop-preserved c =
    let at = c.loop in
    at.invariant ∙ rounds_on _ _ _ at.counter _ c.loop-test.true c.in-Some.ensures refl

pub returns : goal.returns
returns c =
    let whole = rounds_begin _ _ _ c.offering_links-offering.ensures ∙ c.loop.invariant in
    sym (whole ∙ rounds_done _ _ _ c.loop.counter _ c.loop-test.false)
