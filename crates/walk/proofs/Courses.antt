-- The walk from where a packet stands, by the tests that the moves make, and what a move adds to answer and trace. Answer and trace go
-- together: a move that crosses a link has stored its node one place on, so the rest of the walk from there is the whole.
use Prim.Native.Nat.{ℕ, ◌+◌, ◌*◌, ◌-◌, ◌<◌, ◌≤◌}
use mathlib.Core.Bool.{true, false}
use mathlib.Core.Path.{◌≡◌, sym, subst, ◌∙◌}
use mathlib.Core.Logic.{◌≢◌}
use mathlib.Core.List.{List}
use native.Mathlib.Omega.{arith}
use lib.ListN.{length, get_or, set}
use Rattle.graph.specs.Network.{Network, link, tail, head}
use Rattle.graph.specs.Path.{visits}
use Rattle.graph.specs.Entries.{onward}
use Rattle.graph.specs.Walk.{Ending, delivered, dropped, exhausted, Course, ends_by, crossing}
use Rattle.graph.proofs.Moves.{Leadless, walk_delivered, walk_exhausted, walk_lost, walk_on_lem, walk_turns}
use Rattle.graph.proofs.Moves.{around_lost, around_drops, around_on}
use Rattle.net.specs.Rows.{Rows, network_of}
use Rattle.net.specs.Failure.{fails}
use Rattle.net.specs.declared.interface.Node.{Node}
use Rattle.net.proofs.Overwrite.{over_none, over_first}
use Rattle.tables.specs.Lent.{LentTables}
use Rattle.walk.specs.Lent.{hop_at}
use Rattle.walk.specs.Walk.{ending_named}
use Rattle.walk.specs.inner.Reading.{Ready}
use Rattle.walk.specs.inner.Moves.{lost_ending, moved_on, course_from, course_around, Standing, Went, WentFrom}
use Rattle.walk.specs.declared.question.Question.{Question}
use Rattle.walk.specs.declared.moves.Packet.{Packet}
use Rattle.walk.specs.declared.walked.Walked.{Walked}
use Rattle.walk.specs.declared.walked.Ending.{Ending as EndingSaid}
use Rattle.walk.proofs.Grounds.{forwarding_read, backwarding_read}

module _ {R : Rows} {T : LentTables} (ready : Ready R T) (question : Question) (packet : Packet) where
  open R use {nodes as n, low, high}
  open T use {forwarding, backwarding}

  abbrev N : Network
  N = network_of R

  abbrev i : ℕ
  i = packet.node.0

  abbrev d : ℕ
  d = question.destination.0

  abbrev course : Course
  course = course_from R T question packet

  -- the packet after one hop more, over interface f to node v
  abbrev beyond : Node → ℕ → Packet
  beyond v f = moved_on packet v (get_or forwarding (f * n + d) 0)

  pub course_delivered : i ≡ d → course ≡ ends_by delivered
  unfolding course_from
  course_delivered e = walk_delivered N _ _ d i packet.left _ _ e

  module _ (away : i ≢ d) where
    pub course_exhausted : packet.left ≡ 0 → course ≡ ends_by exhausted
    unfolding course_from
    course_exhausted e = walk_exhausted N _ _ d i away packet.left _ _ e

    module _ (some : packet.left ≢ 0) where
      pub course_lost : Leadless (hop_at low high i packet.entry) → course ≡ ends_by (lost_ending packet.arrived)
      unfolding course_from
      course_lost l = walk_lost N _ _ d i away packet.left some _ _ l

      module _ (f : ℕ) (leads : hop_at low high i packet.entry ≡ onward f) where
        pub course_turns : fails question.failure (link f) ≡ true → course ≡ course_around R T question packet f
        unfolding course_from course_around
        course_turns down = rw leads (walk_turns N _ _ d i away packet.left some _ f down)

        pub course_on : (v : Node) → v.0 ≡ head N f → fails question.failure (link f) ≡ false
            → course ≡ crossing f (course_from R T question (beyond v f))
        unfolding course_from moved_on lost_ending
        course_on v enters up =
            rw leads
            (walk_on_lem N _ _ d i away packet.left some _ f up
            ∙ rw (forwarding_read ready d f v.0 (sym enters), enters))

  module _ (f : ℕ) (leaves : tail N f ≡ i) where
    pub turned_lost : Leadless (hop_at low high i (get_or backwarding (f * n + d) 0)) → course_around R T question packet f ≡ ends_by dropped
    unfolding course_around
    turned_lost l = rw (backwarding_read ready d f i leaves) (around_lost N _ _ d i (packet.left - 1) _ l)

    module _ (g : ℕ) (leads : hop_at low high i (get_or backwarding (f * n + d) 0) ≡ onward g) where
      pub turned_drops : fails question.failure (link g) ≡ true → course_around R T question packet f ≡ ends_by dropped
      unfolding course_around
      turned_drops down = rw (backwarding_read ready d f i leaves, leads) (around_drops N _ _ d i (packet.left - 1) g down)

      pub turned_on : (v : Node) → v.0 ≡ head N g → fails question.failure (link g) ≡ false
          → course_around R T question packet f ≡ crossing g (course_from R T question (beyond v g))
      unfolding course_around course_from moved_on lost_ending
      turned_on v enters up =
          rw (backwarding_read ready d f i leaves, leads)
          (around_on N _ _ d i (packet.left - 1) g up ∙ rw (forwarding_read ready d g v.0 (sym enters), enters))

-- a walk that ends here; one that goes on over a link
module _ (N : Network) {course : Course} (hops : ℕ) (trace : List ℕ) where
  pub went_ends : (e : Ending) (said : EndingSaid) → ending_named said ≡ e → course ≡ ends_by e
      → Went N course hops trace (record { ending = said; hops = hops }) trace
  unfolding ends_by
  went_ends e said told is =
      rw is (record { ending = told; hops_more = omega arith; trace = sym (over_none trace (hops + 1)) })

  pub went_on : {rest : Course} {r : Walked} {after : List ℕ} (f v : ℕ) → v ≡ head N f → course ≡ crossing f rest
      → hops + 1 < length trace → Went N rest (hops + 1) (set trace (hops + 1) v) r after → Went N course hops trace r after
  unfolding crossing
  went_on f v enters is room went =
      rw is
      (record {
        ending = went.ending;
        hops_more = omega (arith, went.hops_more);
        trace = went.trace ∙ rw (← enters) (sym (over_first trace (hops + 1) v _ room));
      })

-- a move that makes the same course as another
pub went_same : (N : Network) {course other : Course} (hops : ℕ) (trace : List ℕ) {r : Walked} {after : List ℕ} → course ≡ other
    → Went N other hops trace r after → Went N course hops trace r after
went_same N hops trace same went = rw same went

-- a move that crosses interface f and hands the packet on
module _ {R : Rows} {T : LentTables} (ready : Ready R T) (question : Question) (packet next : Packet) (v : Node) (f : ℕ) where
  pub went_over : {whole : Course} {trace after : List ℕ} {r : Walked}
      → whole ≡ crossing f (course_from R T question (beyond ready question packet v f))
      → next ≡ beyond ready question packet v f → v.0 ≡ head (network_of R) f → packet.hops + 1 < length trace
      → Went (network_of R) (course_from R T question next) next.hops
      (set trace (packet.hops + 1) v.0) r after
      → Went (network_of R) whole packet.hops trace r after
  unfolding moved_on
  went_over {whole} {trace} {after} {r} is moved enters room went =
      let N = network_of R in
      let stored = set trace (packet.hops + 1) v.0 in
      went_on N packet.hops trace f v.0 enters is room
      (subst (λ (p : Packet). Went N (course_from R T question p) p.hops stored r after) moved went)

-- A packet that has gone from where `packet` stood along working links to where `here` stands: what is known there, and that the rest of
-- the walk is the whole.
pub record Along (R : Rows) (T : LentTables) (question : Question) (packet : Packet) (before : List ℕ) (here : Packet)
    (now : List ℕ) : Type 0 where
  pub standing : Standing R question here now
  pub same_length : length now ≡ length before
  pub fewer : here.left ≤ packet.left
  pub whole : (r : Walked) (after : List ℕ)
      → Went (network_of R) (course_from R T question here) here.hops now r after
      → Went (network_of R) (course_from R T question packet) packet.hops before r after

-- a whole walk from its source
pub went_from : (N : Network) {course : Course} {r : Walked} {after : List ℕ} (s : ℕ) (trace : List ℕ)
    → 0 < length trace → Went N course 0 (set trace 0 s) r after → WentFrom N s course trace r after
unfolding visits
went_from N s trace room went =
    record {
      ending = went.ending;
      hops = omega (arith, went.hops_more);
      trace = went.trace ∙ sym (over_first trace 0 s _ room);
    }
