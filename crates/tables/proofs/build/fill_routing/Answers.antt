use Prim.Native.Nat.{◌+◌, ◌*◌, ◌≤◌}
use mathlib.Core.Path.{refl}
use native.Mathlib.Omega.{arith}
use lib.ListN.{length}
use Rattle.net.proofs.Accepted.{check_accepts}
use Rattle.paths.specs.inner.Square.{column_for}
use Rattle.paths.proofs.Turning.{turned_costs}
use Rattle.tables.proofs.RowBytes.{routing_row}
use Rattle.tables.proofs.Building.{row_room, filled_row}
use Rattle.tables.proofs.build.fill_routing.Goals as goal

pub loop-i-preserved : goal.loop-i-preserved
unfolding column_for
loop-i-preserved c =
    let at = c.loop-i in
    let n = c.args.network.now.rows.nodes in
    let room : at.i * n + n ≤ length c.args.table.now = row_room {rows = n} n at.i c.loop-i-test.true c.requires.room in
    let rows = c.turned-rows in
    let costs = column_for rows.result at.i in
    filled_row at.invariant refl room at.i costs
    (routing_row _ (check_accepts _ c.args.network.now.passed) at.i costs c.args.all c.requires.square (omega arith)
    (λ d. turned_costs _ _ _ rows.ensures at.i d (omega arith)))
    c.fill_row.ensures
