use mathlib.Core.Path.{refl, sym, ◌∙◌}
use native.Mathlib.Omega.{arith}
use lib.ListN.{length-set}
use Rattle.tables.proofs.EntryRows.{row_on, row_done}
use Rattle.tables.proofs.entry.fill_row.Goals as goal

pub loop-d-preserved : goal.loop-d-preserved
loop-d-preserved c =
    let at = c.loop-d in
    let args = c.args in
    rw (length-set at.row at.d c.entry_byte.result)
    (at.invariant ∙ row_on _ args.i.0 args.costs at.row at.d _ _ refl (omega arith) (omega arith) c.entry_byte.ensures)

pub returns : goal.returns
returns c =
    let at = c.loop-d in
    let args = c.args in
    let long = c.loop-d.auto.row in
    rw (← long) (sym (at.invariant ∙ row_done _ args.i.0 args.costs at.row at.d refl (rw long c.loop-d-test.false)))
