-- The interface's row is in the backwarding table, so the destination's place in it is.
use native.Mathlib.Omega.{arith}
use Rattle.walk.proofs.Grounds.{row_fits, place_fits, place_within, backwarding_row}
use Rattle.walk.proofs.Verdicts.{checked_ready}
use Rattle.walk.proofs.around.look_around.Goals as goal

pub overflow_mul-back : goal.overflow_mul-back
overflow_mul-back c = row_fits _ _ _ (backwarding_row (checked_ready c.args.checked.now) c.args.f.0 c.requires.interface) (omega arith)

pub overflow_add-back : goal.overflow_add-back
overflow_add-back c =
    place_fits _ _ _ _ (backwarding_row (checked_ready c.args.checked.now) c.args.f.0 c.requires.interface) c.requires.placed.destination (omega arith)

pub bounds-checked-f : goal.bounds-checked-f
bounds-checked-f c =
    place_within _ _ _ _ (backwarding_row (checked_ready c.args.checked.now) c.args.f.0 c.requires.interface) c.requires.placed.destination
