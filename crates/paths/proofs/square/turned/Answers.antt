use mathlib.Core.List.{[]}
use native.Mathlib.Omega.{arith}
use lib.ListN.{get_or}
use Rattle.paths.proofs.Shape.{Shaped, array_shaped, within}
use Rattle.paths.proofs.Turning.{turned_start, turned_more, turned_row}
use Rattle.paths.proofs.square.turned.Goals as goal

pub loop-i-init : goal.loop-i-init
loop-i-init g c = λ past. turned_start past (search array_shaped)

pub loop-d-preserved : goal.loop-d-preserved
loop-d-preserved g c =
    let shaped : Shaped c.args.square = search array_shaped in
    let i = c.loop-i.i in
    let at = c.loop-d in
    λ past. turned_more past (at.invariant past) (omega arith) (omega arith)
    (within (get_or c.args.square at.d []) i _ past (omega (arith, shaped.row at.d (omega arith))))

pub loop-i-preserved : goal.loop-i-preserved
loop-i-preserved g c = λ past. turned_row past (c.loop-d.invariant past) c.loop-d-test.false

pub returns : goal.returns
returns g c = λ past i d node. (c.loop-i.invariant past).passed i d (omega arith)
