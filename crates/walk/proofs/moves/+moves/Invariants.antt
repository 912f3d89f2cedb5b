-- The walk's two moves, which call each other. Where `left` hops are left, the forwarding move has the measure 2 * left + 1 and the
-- backwarding move 2 * left: turning to the backwarding move lowers it by one, and crossing a link lowers `left`. Answer and trace go
-- together (`Went`): a move that ends leaves the trace, and one that crosses a link has stored the node there, so that the rest of the
-- walk is the whole. That is what the forwarding move's loop keeps (`Along`): whatever the rest of the walk answers and leaves from where
-- the packet now stands, the whole walk does. An interface that the look-up names has its row in both tables.
use Rattle.std.proofs.Common.{◌+◌, ◌*◌}
use Rattle.walk.specs.inner.Reading.{rows_checked, tables_checked}
use Rattle.walk.proofs.Courses.{Along}
use Rattle.walk.proofs.moves.+moves.Given as goal

abbrev pub decreases-backwarding_move : goal.decreases-backwarding_move
decreases-backwarding_move l = 2 * l.packet.left

abbrev pub decreases-forwarding_move : goal.decreases-forwarding_move
decreases-forwarding_move l = 2 * l.packet.left + 1

-- the packet goes along working links, and at each the hops left fall
abbrev pub invariant-forwarding_move-loop-question : goal.invariant-forwarding_move-loop-question
invariant-forwarding_move-loop-question l =
    Along (rows_checked l.checked) (tables_checked l.checked) l.question l.fn.packet l.fn.trace l.here l.trace

abbrev pub decreases-forwarding_move-loop-question : goal.decreases-forwarding_move-loop-question
decreases-forwarding_move-loop-question l = l.here.left
