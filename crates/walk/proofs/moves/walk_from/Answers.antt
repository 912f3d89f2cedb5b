-- The source is stored first, and the forwarding move goes on from there with the routing entry.
use native.Mathlib.Omega.{arith}
use Rattle.graph.specs.Walk.{walk_of}
use Rattle.walk.specs.Lent.{tables_for}
use Rattle.walk.specs.Walk.{course_of}
use Rattle.walk.specs.inner.Moves.{course_from, lost_ending}
use Rattle.walk.proofs.Courses.{went_from}
use Rattle.walk.proofs.Grounds.{row_fits, place_fits, place_within, routing_row, node_fits}
use Rattle.walk.proofs.Verdicts.{checked_ready}
use Rattle.walk.proofs.moves.walk_from.Goals as goal

pub overflow_cast-trace : goal.overflow_cast-trace
overflow_cast-trace c = node_fits (checked_ready c.args.checked.now) c.args.source.0 c.requires.source

pub overflow_mul-packet : goal.overflow_mul-packet
overflow_mul-packet c = row_fits _ _ _ (routing_row (checked_ready c.args.checked.now) c.args.source.0 c.requires.source) (omega arith)

pub overflow_add-packet : goal.overflow_add-packet
overflow_add-packet c =
    place_fits _ _ _ _ (routing_row (checked_ready c.args.checked.now) c.args.source.0 c.requires.source) c.requires.destination (omega arith)

pub bounds-checked-s : goal.bounds-checked-s
bounds-checked-s c =
    place_within _ _ _ _ (routing_row (checked_ready c.args.checked.now) c.args.source.0 c.requires.source) c.requires.destination

pub returns : goal.returns
unfolding course_from course_of lost_ending tables_for walk_of
returns c =
    went_from _ c.args.source.0 c.args.trace.now (omega (arith, c.requires.room)) c.forwarding_move.ensures
