-- A number of several groups puts its first group and goes on with the rest; the last group ends it.
use mathlib.Core.Path.{sym, ap, ◌∙◌}
use native.Mathlib.Omega.{arith}
use lib.ListN.{length, length-set}
use Rattle.net.specs.inner.Overwritten.{overwritten}
use Rattle.net.proofs.Overwrite.{over_one, over_first}
use Rattle.plan.proofs.Lengths.{stored_last, stored_more}
use Rattle.plan.proofs.number.put_number.Goals as goal

pub bounds-room-at : goal.bounds-room-at
bounds-room-at c =
    let at = c.loop-rest in
    omega (arith, ap length (stored_more at.rest c.loop-rest-test.true at.invariant.storable))

pub loop-rest-preserved : goal.loop-rest-preserved
loop-rest-preserved c =
    let at = c.loop-rest in
    let more = stored_more at.rest c.loop-rest-test.true at.invariant.storable in
    record {
      storable = omega arith;
      same_length = simp length-set at.invariant.same_length;
      same_end = omega (arith, ap length more);
      same_room =
          sym (over_first _ _ _ _ (omega (arith, ap length more))) ∙ ap (overwritten at.room at.at) (sym more) ∙ at.invariant.same_room;
    }

pub bounds-room-at-2 : goal.bounds-room-at-2
bounds-room-at-2 c =
    let at = c.loop-rest in
    omega (arith, ap length (stored_last at.rest c.loop-rest-test.false))

pub returns : goal.returns
returns c =
    let at = c.loop-rest in
    let last = stored_last at.rest c.loop-rest-test.false in
    record {
      room = sym (over_one _ _ _ (omega (arith, ap length last))) ∙ ap (overwritten at.room at.at) (sym last) ∙ at.invariant.same_room;
      place = omega (arith, ap length last);
    }
