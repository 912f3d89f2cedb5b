use native.Mathlib.Omega.{arith}
use Rattle.paths.specs.inner.Square.{column_for}
use Rattle.tables.specs.inner.Detours.{kept_for}
use Rattle.tables.proofs.LeavingDestinations.{destination_given}
use Rattle.tables.proofs.LeavingDestinations.{destinations_more, destinations_done}
use Rattle.tables.proofs.backward.leave_out_keys.Goals as goal

pub leave_out-requires : goal.leave_out-requires
unfolding column_for kept_for
leave_out-requires c =
    destination_given c.requires c.loop-d-test.true c.loop-d.invariant

pub loop-d-preserved : goal.loop-d-preserved
loop-d-preserved c =
    destinations_more c.loop-d-test.true c.loop-d.invariant c.leave_out.ensures

pub returns : goal.returns
returns c = destinations_done (omega arith) c.loop-d.invariant
