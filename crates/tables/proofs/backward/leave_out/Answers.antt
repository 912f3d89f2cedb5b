use mathlib.Core.Path.{sym, ◌∙◌}
use native.Mathlib.Omega.{arith}
use Rattle.net.proofs.Accepted.{check_accepts}
use Rattle.tables.proofs.LeavingNodes.{nodes_done, node_without_keys, node_with_keys, back_keys, back_room}
use Rattle.tables.proofs.backward.leave_out.Goals.{then-not-is_empty, else-not-is_empty}
use Rattle.tables.proofs.backward.leave_out.Goals as goal

pub backward_byte-byte-requires : goal.backward_byte-byte-requires
backward_byte-byte-requires c =
    back_keys (check_accepts _ c.args.network.now.passed) c.requires _ c.loop-i-test.true c.loop-i.invariant (omega arith) _ (sym c.is_empty.ensures ∙ c.if-not-is_empty.true)
    (omega arith) _ c.reverse_of-h.ensures

pub overflow_mul-table : goal.overflow_mul-table
overflow_mul-table c =
    let room = back_room (check_accepts _ c.args.network.now.passed) c.requires _ c.loop-i-test.true c.loop-i.invariant (omega arith) _
    (sym c.is_empty.ensures ∙ c.if-not-is_empty.true) (omega arith) _ c.reverse_of-h.ensures in
    omega (arith, room)

pub overflow_add-table : goal.overflow_add-table
overflow_add-table c =
    let room = back_room (check_accepts _ c.args.network.now.passed) c.requires _ c.loop-i-test.true c.loop-i.invariant (omega arith) _
    (sym c.is_empty.ensures ∙ c.if-not-is_empty.true) (omega arith) _ c.reverse_of-h.ensures in
    omega (arith, room)

pub bounds-table-h : goal.bounds-table-h
bounds-table-h c =
    let room = back_room (check_accepts _ c.args.network.now.passed) c.requires _ c.loop-i-test.true c.loop-i.invariant (omega arith) _
    (sym c.is_empty.ensures ∙ c.if-not-is_empty.true) (omega arith) _ c.reverse_of-h.ensures in
    omega (arith, room)

pub loop-i-preserved : goal.loop-i-preserved
loop-i-preserved c =
    let at = c.loop-i in
    let node = c.loop-i-test.true in
    let test = sym c.is_empty.ensures in
    elim c.if-not-is_empty.branch [
      | then-not-is_empty w ↦
          rw w.table-is
          (node_with_keys (check_accepts _ c.args.network.now.passed) c.requires at.i node at.invariant (omega arith) _ (test ∙ w.if-not-is_empty.true)
          (omega arith) _ w.reverse_of-h.ensures w.backward_byte-byte.ensures)
      | else-not-is_empty w ↦
          rw w.table-is
          (node_without_keys (check_accepts _ c.args.network.now.passed) c.requires at.i node at.invariant (omega arith) _ (test ∙ w.if-not-is_empty.false))
    ]

pub returns : goal.returns
returns c = nodes_done (check_accepts _ c.args.network.now.passed) c.requires (omega arith) c.loop-i.invariant
