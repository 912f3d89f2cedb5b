use mathlib.Core.Path.{sym, ◌∙◌}
use native.Mathlib.Omega.{arith}
use Rattle.net.proofs.Accepted.{check_accepts}
use Rattle.tables.proofs.Noting.{noted_uncrossed, noted_crossed, ahead_place}
use Rattle.tables.proofs.kept.note_column.Goals.{then-crosses_link, else-crosses_link}
use Rattle.tables.proofs.kept.note_column.Goals as goal

pub offset_bounds-without-j : goal.offset_bounds-without-j
offset_bounds-without-j c =
    let place = ahead_place (check_accepts _ c.args.network.now.passed) c.requires (omega arith) _ c.loop-i-test.true _ (sym c.crosses_link.ensures ∙ c.if-crosses_link.true)
    c.head_of-j.ensures in
    omega (arith, place)

pub bounds-without-j : goal.bounds-without-j
bounds-without-j c =
    ahead_place (check_accepts _ c.args.network.now.passed) c.requires (omega arith) _ c.loop-i-test.true _ (sym c.crosses_link.ensures ∙ c.if-crosses_link.true) c.head_of-j.ensures

pub loop-i-preserved : goal.loop-i-preserved
loop-i-preserved c =
    let at = c.loop-i in
    let test = sym c.crosses_link.ensures in
    elim c.if-crosses_link.branch [
      | then-crosses_link w ↦
          rw w.next-is
          (noted_crossed (check_accepts _ c.args.network.now.passed) c.requires (omega arith) at.i c.loop-i-test.true _ (test ∙ w.if-crosses_link.true) at.invariant
          (omega arith) _ w.head_of-j.ensures c.end_at.ensures c.end_at-2.ensures w.noted.ensures)
      | else-crosses_link w ↦
          rw w.next-is
          (noted_uncrossed (check_accepts _ c.args.network.now.passed) c.requires (omega arith) at.i c.loop-i-test.true _ at.invariant (test ∙ w.if-crosses_link.false))
    ]
