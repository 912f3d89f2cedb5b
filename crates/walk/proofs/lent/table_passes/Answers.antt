-- A row is decided at the node that is answered for it, so it passes as the caller's deciding node says.
use Rattle.walk.proofs.Below.{no_rows, row_more, row_fails, all_rows}
use Rattle.walk.proofs.lent.table_passes.Goals as goal

pub loop-row-init : goal.loop-row-init
loop-row-init g c deciding decides = no_rows _ _ _ _ _

pub returns-then-not-row_passes : goal.returns-then-not-row_passes
returns-then-not-row_passes g c deciding decides =
    row_fails _ _ _ deciding _ _ _ (decides _ _ c.loop-row-test.true c.decider.ensures) c.row_passes.ensures _ c.loop-row-test.true
    c.if-not-row_passes.true c.requires.room

pub loop-row-preserved : goal.loop-row-preserved
loop-row-preserved g c deciding decides =
    row_more _ _ _ deciding _ _ _ (decides _ _ c.loop-row-test.true c.decider.ensures) c.row_passes.ensures _ c.loop-row-test.true
    c.if-not-row_passes.false (c.loop-row.invariant deciding decides)

pub returns : goal.returns
returns g c deciding decides =
    all_rows _ _ _ _ _ _ _ c.loop-row.auto.row-end c.loop-row-test.false (c.loop-row.invariant deciding decides) c.requires.room
