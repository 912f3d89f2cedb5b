use Rattle.std.proofs.Common.{ℕ, ◌≡◌, ◌+◌, ◌<◌, List, refl, sym, ◌∙◌, arith}
use mathlib.Core.Bool.{Bool, true, false, not}
use mathlib.Core.Path.{ap}
use mathlib.Core.Logic.{◌≢◌, inl, inr}
use borrow.Author.Tests.{eq-eqb, eqb-true}
use lib.Dec.{eqb}
use lib.ListN.{set, length-set}
use Rattle.graph.specs.Walk.{delivered, dropped, exhausted}
use Rattle.net.specs.declared.interface.Node.{Node}
use Rattle.net.specs.Rows.{Rows}
use Rattle.walk.specs.inner.Moves.{lost_ending, moved_on, Standing}
use Rattle.walk.specs.declared.walked.Ending.TheVariants.{Delivered, Dropped, Exhausted}
use Rattle.walk.specs.declared.question.Question.{Question}
use Rattle.walk.specs.declared.moves.Packet.{Packet}
use Rattle.walk.proofs.Unblocked.{around_open, around_shut}
use Rattle.walk.proofs.Grounds as grounds
use Rattle.walk.proofs.Verdicts.{checked_ready}
use Rattle.walk.proofs.Courses.{course_delivered, course_exhausted, course_lost, course_turns, course_on, turned_lost, turned_drops}
use Rattle.walk.proofs.Courses.{turned_on, went_ends, went_same, went_over}
use Rattle.walk.proofs.moves.+moves.Goals as goal

-- past a crossed link the packet stands at the link's other node, with room in the trace for the hops left
stands_on : {R : Rows} {trace : List ℕ} {question : Question} {packet next : Packet} {v : Node}
    (entry : ℕ) → Standing R question packet trace → 0 < packet.left → v.0 < R.nodes → next ≡ moved_on packet v entry
    → Standing R question next (set trace (packet.hops + 1) v.0)
unfolding moved_on
stands_on {trace = trace} {packet = packet} {v = v} entry standing some below moved =
    record {
      destination = standing.destination;
      node = rw moved below;
      room = rw moved (omega (arith, standing.room, some, length-set trace (packet.hops + 1) v.0));
    }

-- what the loop's test says of the node
apart : {test : Bool} {i d : ℕ} → test ≡ not (eqb i d) → test ≡ true → i ≢ d
apart {i} {d} tested away e = let same : eqb i d ≡ true = eq-eqb i d e in let z : true ≡ false = sym away ∙ tested ∙ ap not same in cc

arrived : {test : Bool} {i d : ℕ} → test ≡ not (eqb i d) → test ≡ false → i ≡ d
arrived {i} {d} tested here = eqb-true i d (by_test (eqb i d) (sym tested ∙ here))
  where
    by_test : (b : Bool) → not b ≡ false → b ≡ true
    by_test true e = refl
    by_test false e = cc

pub backwarding_move-look_around-requires : goal.backwarding_move-look_around-requires
backwarding_move-look_around-requires t c =
    let standing = c.requires.standing in
    record {
      placed = record { destination = standing.destination; node = standing.node };
      interface = c.requires.interface;
    }

pub backwarding_move-returns-in_default : goal.backwarding_move-returns-in_default
backwarding_move-returns-in_default t c leaves =
    let ready = checked_ready c.args.checked.now in
    went_ends _ _ _ dropped Dropped refl
    (elim (around_shut _ _ c.in_default.ensures) [
      | inl none ↦ turned_lost ready c.args.question c.args.packet c.args.f.0 leaves (grounds.absent ready _ _ refl none)
      | inr shut ↦ turned_drops ready _ _ c.args.f.0 leaves _ (grounds.leads ready _ _ refl _ _ shut.is).entry shut.down
    ])

pub backwarding_move-overflow_cast-trace : goal.backwarding_move-overflow_cast-trace
backwarding_move-overflow_cast-trace t c = grounds.next_fits (checked_ready c.args.checked.now) _ _ refl (around_open _ _ c.in-Some.ensures).is

pub backwarding_move-overflow_mul-entry : goal.backwarding_move-overflow_mul-entry
backwarding_move-overflow_mul-entry t c =
    grounds.next_row_fits (checked_ready c.args.checked.now) _ _ refl (around_open _ _ c.in-Some.ensures).is (omega arith)

pub backwarding_move-overflow_add-entry : goal.backwarding_move-overflow_add-entry
backwarding_move-overflow_add-entry t c =
    let standing = c.requires.standing in
    grounds.next_place_fits (checked_ready c.args.checked.now) _ _ refl (around_open _ _ c.in-Some.ensures).is (omega arith) standing.destination

pub backwarding_move-bounds-checked-g : goal.backwarding_move-bounds-checked-g
backwarding_move-bounds-checked-g t c =
    let standing = c.requires.standing in
    grounds.next_place_within (checked_ready c.args.checked.now) _ _ refl (around_open _ _ c.in-Some.ensures).is standing.destination

pub backwarding_move-forwarding_move-requires : goal.backwarding_move-forwarding_move-requires
unfolding moved_on
backwarding_move-forwarding_move-requires t c =
    let standing = c.requires.standing in
    let below : c.in-Some.node.0 < c.args.checked.now.network.rows.nodes = grounds.next_node_below (checked_ready c.args.checked.now) _ _ refl (around_open _ _ c.in-Some.ensures).is in
    (rw c.moved.ensures (omega (arith, c.decreases, c.requires.some)), stands_on _ standing c.requires.some below c.moved.ensures)

pub backwarding_move-returns : goal.backwarding_move-returns
backwarding_move-returns t c leaves =
    let leads = grounds.leads (checked_ready c.args.checked.now) _ _ refl _ _ (around_open _ _ c.in-Some.ensures).is in
    went_over (checked_ready c.args.checked.now) c.args.question c.args.packet c.moved.result c.in-Some.node c.in-Some.g.0
    (turned_on (checked_ready c.args.checked.now) _ _ _ leaves _ leads.entry _ leads.enters
    (around_open _ _ c.in-Some.ensures).stands)
    c.moved.ensures leads.enters (omega (arith, c.requires.standing.room, c.requires.some))
    c.forwarding_move.ensures

pub forwarding_move-returns-then-here-eq0 : goal.forwarding_move-returns-then-here-eq0
forwarding_move-returns-then-here-eq0 t c =
    c.loop-question.invariant.whole _ _
    (went_ends _ _ _ exhausted Exhausted refl (course_exhausted (checked_ready c.args.checked.now) _ _ (apart c.ne.ensures c.loop-question-test.true) c.if-here-eq0.true))

pub forwarding_move-returns-in_default : goal.forwarding_move-returns-in_default
forwarding_move-returns-in_default t c =
    c.loop-question.invariant.whole _ _
    (went_ends _ _ _ (lost_ending c.loop-question.here.arrived) _ c.lost_ending.ensures
    (course_lost (checked_ready c.args.checked.now) _ _ (apart c.ne.ensures c.loop-question-test.true) c.if-here-eq0.false (grounds.absent (checked_ready c.args.checked.now) _ _ c.look_up.ensures c.in_default.is)))

pub forwarding_move-backwarding_move-requires : goal.forwarding_move-backwarding_move-requires
forwarding_move-backwarding_move-requires t c =
    let standing = c.loop-question.invariant.standing in (
      omega (arith, c.decreases, c.loop-question.invariant.fewer),
      record {
        standing = standing;
        some = omega (arith, c.if-here-eq0.false);
        interface = (grounds.leads (checked_ready c.args.checked.now) _ _ c.look_up.ensures _ _ c.in-Some.is).below;
      },
    )

pub forwarding_move-returns-then-blocked : goal.forwarding_move-returns-then-blocked
forwarding_move-returns-then-blocked t c =
    let leads = grounds.leads (checked_ready c.args.checked.now) _ _ c.look_up.ensures _ _ c.in-Some.is in
    c.loop-question.invariant.whole _ _
    (went_same _ _ _
    (course_turns (checked_ready c.args.checked.now) c.args.question c.loop-question.here (apart c.ne.ensures c.loop-question-test.true) c.if-here-eq0.false c.in-Some.f.0
    leads.entry
    (sym c.if-blocked.ensures))
    (c.backwarding_move.ensures leads.leaves))

pub forwarding_move-overflow_cast-trace : goal.forwarding_move-overflow_cast-trace
forwarding_move-overflow_cast-trace t c = grounds.next_fits (checked_ready c.args.checked.now) _ _ c.look_up.ensures c.in-Some.is

pub forwarding_move-overflow_mul-entry : goal.forwarding_move-overflow_mul-entry
forwarding_move-overflow_mul-entry t c =
    grounds.next_row_fits (checked_ready c.args.checked.now) _ _ c.look_up.ensures c.in-Some.is (omega arith)

pub forwarding_move-overflow_add-entry : goal.forwarding_move-overflow_add-entry
forwarding_move-overflow_add-entry t c =
    let standing = c.loop-question.invariant.standing in
    grounds.next_place_fits (checked_ready c.args.checked.now) _ _ c.look_up.ensures c.in-Some.is (omega arith) standing.destination

pub forwarding_move-bounds-checked-f : goal.forwarding_move-bounds-checked-f
forwarding_move-bounds-checked-f t c =
    let standing = c.loop-question.invariant.standing in
    grounds.next_place_within (checked_ready c.args.checked.now) _ _ c.look_up.ensures c.in-Some.is standing.destination

pub forwarding_move-loop-question-smaller : goal.forwarding_move-loop-question-smaller
unfolding moved_on
forwarding_move-loop-question-smaller t c =
    rw c.moved-here.ensures (omega (arith, c.if-here-eq0.false))

pub forwarding_move-loop-question-preserved : goal.forwarding_move-loop-question-preserved
unfolding moved_on
forwarding_move-loop-question-preserved t c =
    let here = c.loop-question.here in
    let so_far = c.loop-question.invariant in
    let standing = so_far.standing in
    let packet = c.moved-here.ensures in
    let below : c.in-Some.node.0 < c.args.checked.now.network.rows.nodes = grounds.next_node_below (checked_ready c.args.checked.now) _ _ c.look_up.ensures c.in-Some.is in
    record {
      standing = stands_on _ standing (omega (arith, c.if-here-eq0.false)) below packet;
      same_length = length-set c.loop-question.trace (here.hops + 1) c.in-Some.node.0 ∙ so_far.same_length;
      fewer = rw packet (omega (arith, so_far.fewer));
      whole = λ r after went.
          let leads = grounds.leads (checked_ready c.args.checked.now) _ _ c.look_up.ensures _ _ c.in-Some.is in
          so_far.whole r after
          (went_over (checked_ready c.args.checked.now) c.args.question here c.moved-here.result c.in-Some.node c.in-Some.f.0
          (course_on (checked_ready c.args.checked.now) _ _ (apart c.ne.ensures c.loop-question-test.true) c.if-here-eq0.false _ leads.entry
          _ leads.enters
          (sym c.if-blocked.ensures))
          packet leads.enters (omega (arith, standing.room, c.if-here-eq0.false)) went);
    }

pub forwarding_move-returns : goal.forwarding_move-returns
forwarding_move-returns t c =
    c.loop-question.invariant.whole _ _
    (went_ends _ _ _ delivered Delivered refl (course_delivered (checked_ready c.args.checked.now) _ _ (arrived c.ne.ensures c.loop-question-test.false)))
