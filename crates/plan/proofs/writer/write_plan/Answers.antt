-- `write_plan` makes the tests in the order of `write_plan`. Past them the network is accepted and its plan fits the room, which is what
-- `put_plan` asks for.
use Prim.Native.Nat.{ℕ}
use mathlib.Core.Path.{sym, ap, ◌∙◌}
use native.Mathlib.Omega.{arith}
use Rattle.net.specs.Verdict.{Verdict}
use Rattle.net.proofs.Accepted.{check_accepts}
use Rattle.net.proofs.Told.{number_refuses}
use Rattle.plan.specs.Writer.{unwritten}
use Rattle.plan.proofs.Answers.{network_refused, room_short, plan_written}
use Rattle.plan.proofs.writer.write_plan.Goals as goal

abbrev number : Verdict → ℕ
number verdict = verdict.number

pub returns-in-Err : goal.returns-in-Err
returns-in-Err c =
    let told = c.in-Err.ensures.refusal in
    let refused = number_refuses c.in-Err.refused.refusal in
    let answer = network_refused _ c.args.room.now (λ none. refused (ap number told ∙ none)) in
    record { value = ap unwritten told ∙ answer.0; room_after = answer.1 }

pub returns-then-room-count : goal.returns-then-room-count
returns-then-room-count c =
    let same = sym c.in-Ok.ensures.same_rows in
    let answer = room_short _ c.args.room.now (check_accepts _ c.in-Ok.network.passed) (omega arith) in
    record { value = rw (c.at.ensures, same) answer.0; room_after = rw same answer.1 }

pub returns : goal.returns
returns c =
    let same = sym c.in-Ok.ensures.same_rows in
    let answer = plan_written _ c.args.room.now (check_accepts _ c.in-Ok.network.passed) (omega arith) in
    record { value = rw (c.plan_length-count.ensures, same) answer.0; room_after = rw (c.put_plan.ensures, same) answer.1 }
