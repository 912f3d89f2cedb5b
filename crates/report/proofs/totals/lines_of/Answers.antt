use Prim.Native.Nat.{◌≤◌}
use mathlib.Core.Path.{refl}
use native.Mathlib.Omega.{arith}
use lib.ListN.{length}
use Rattle.net.specs.Limits.{most_links}
use Rattle.walk.proofs.Verdicts.{checked_ready}
use Rattle.walk.specs.declared.checked.CheckedTables.{CheckedTables}
use Rattle.walk.proofs.Grounds.{few_nodes}
use Rattle.report.specs.Line.{no_line}
use Rattle.report.proofs.AllLines.{held_begin, held_on, held_on_fits, held_fits}
use Rattle.report.proofs.totals.lines_of.Goals as goal

few_links : (checked : CheckedTables) → length checked.network.rows.low.now ≤ most_links
few_links checked = (checked_ready checked).network.few_links

pub offset_bounds-lines-k : goal.offset_bounds-lines-k
offset_bounds-lines-k c = record { fits = omega (arith, c.loop-k-test.true, few_links c.args.checked.now) }

pub bounds-lines-k : goal.bounds-lines-k
bounds-lines-k c = omega (arith, c.loop-k-test.true, few_links c.args.checked.now)

pub overflow_add-delivered : goal.overflow_add-delivered
overflow_add-delivered c =
    let fits = held_on_fits _ _ (few_nodes (checked_ready c.args.checked.now)) c.loop-k.invariant c.line_of-line.ensures in
    record { fits = omega (arith, fits.0, c.loop-k-test.true, few_links c.args.checked.now) }

pub overflow_add-dropped : goal.overflow_add-dropped
overflow_add-dropped c =
    let fits = held_on_fits _ _ (few_nodes (checked_ready c.args.checked.now)) c.loop-k.invariant c.line_of-line.ensures in
    record { fits = omega (arith, fits.1, c.loop-k-test.true, few_links c.args.checked.now) }

pub overflow_add-result : goal.overflow_add-result
overflow_add-result c =
    let fits = held_fits _ _ (few_nodes (checked_ready c.args.checked.now)) c.loop-k.invariant in
    record { fits = omega (arith, fits.0, fits.1, c.loop-k.auto.k-end, few_links c.args.checked.now) }

pub loop-k-init : goal.loop-k-init
unfolding no_line
loop-k-init c = held_begin _ refl c.line_of-first.ensures

pub loop-k-preserved : goal.loop-k-preserved
loop-k-preserved c =
    held_on _ c.loop-k.invariant (omega (arith, c.loop-k-test.true, few_links c.args.checked.now)) c.line_of-line.ensures
