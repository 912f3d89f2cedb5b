-- The step by the tests that the code makes: past the failed link, at the node, and where it is asked.
use Prim.Native.Nat.{ℕ, ◌+◌, ◌*◌}
use mathlib.Core.Bool.{true, false}
use mathlib.Core.Path.{◌≡◌}
use mathlib.Core.Logic.{◌≢◌}
use borrow.Author.Tests.{eq-eqb, ne_eqb}
use lib.ListN.{get_or}
use Rattle.graph.specs.Network.{link, tail, head}
use Rattle.graph.specs.Entries.{Hop, onward}
use Rattle.graph.proofs.Moves.{Leadless, step_nothing, step_along, step_around_lem, around_nothing, around_along, around_failed}
use Rattle.net.specs.Rows.{Rows, network_of}
use Rattle.net.specs.Failure.{fails}
use Rattle.net.specs.declared.interface.Interface.{Interface}
use Rattle.net.specs.declared.interface.Node.{Node}
use Rattle.tables.specs.Lent.{LentTables}
use Rattle.walk.specs.Lent.{hop_at, tables_for}
use Rattle.walk.specs.Step.{Delivered, NothingToFollow, Dropped, Next, decides, entry_read, told, step_at, step_of}
use Rattle.walk.specs.inner.Reading.{Ready}
use Rattle.walk.specs.inner.Steps.{step_around}
use Rattle.walk.specs.declared.question.Question.{Question}
use Rattle.walk.specs.declared.steps.Asked.{Asked}
use Rattle.walk.specs.declared.steps.Asked.TheVariants.{Start, Arrival}
use Rattle.walk.proofs.Grounds.{backwarding_read}

-- away from the destination, with an entry that leads to no interface
pub step_lost : (R : Rows) (T : LentTables) (question : Question) (i : ℕ) → i ≢ question.destination.0 → {entry : Hop} → Leadless entry
    → NothingToFollow ≡ step_at R T question i entry
unfolding step_at told
step_lost R T question i away l =
    rw (
      ne_eqb i question.destination.0 away,
      step_nothing (fails question.failure) (tables_for R T question.destination.0).backwarding l,
    )

module _ {R : Rows} {T : LentTables} (ready : Ready R T) (question : Question) (i : ℕ) where
  open R use {nodes as n, low, high}
  open T use {backwarding}

  abbrev d : ℕ
  d = question.destination.0

  -- an interface crossed is answered with the node that it enters
  crossed : (v : Node) (f : Interface) → v.0 ≡ head (network_of R) f.0 → Next v f ≡ Next (record { 0 = head (network_of R) f.0 }) f
  crossed v f enters = λ t. Next (record { 0 = enters t }) f

  -- past the failed link, by the backwarding entry of interface f
  module _ (f : ℕ) (leaves : tail (network_of R) f ≡ i) where
    pub around_absent : Leadless (hop_at low high i (get_or backwarding (f * n + d) 0)) → Dropped ≡ step_around R T question f
    unfolding step_around told
    around_absent l = rw (backwarding_read ready d f i leaves, around_nothing (fails question.failure) l)

    module _ (g : Interface) (leads : hop_at low high i (get_or backwarding (f * n + d) 0) ≡ onward g.0) where
      pub around_drops : fails question.failure (link g.0) ≡ true → Dropped ≡ step_around R T question f
      unfolding step_around told
      around_drops down = rw (backwarding_read ready d f i leaves, leads, around_failed (fails question.failure) g.0 down)

      pub around_crosses : (v : Node) → v.0 ≡ head (network_of R) g.0 → fails question.failure (link g.0) ≡ false
          → Next v g ≡ step_around R T question f
      unfolding step_around told
      around_crosses v enters up =
          rw (backwarding_read ready d f i leaves, leads, around_along (fails question.failure) g.0 up) (crossed v g enters)

  -- at the node, by the entry that is read there
  pub step_delivered : (entry : Hop) → i ≡ d → Delivered ≡ step_at R T question i entry
  unfolding step_at
  step_delivered entry e = rw (eq-eqb i d e)

  module _ (away : i ≢ d) (byte : ℕ) (f : Interface) (leads : hop_at low high i byte ≡ onward f.0) where
    pub step_turns : fails question.failure (link f.0) ≡ true
        → step_around R T question f.0 ≡ step_at R T question i (hop_at low high i byte)
    unfolding step_at step_around
    step_turns down = rw (ne_eqb i d away, leads, step_around_lem (fails question.failure) f.0 (tables_for R T d).backwarding down)

    pub step_crosses : (v : Node) → v.0 ≡ head (network_of R) f.0 → fails question.failure (link f.0) ≡ false
        → Next v f ≡ step_at R T question i (hop_at low high i byte)
    unfolding step_at told
    step_crosses v enters up =
        rw (ne_eqb i d away, leads, step_along (fails question.failure) f.0 (tables_for R T d).backwarding up) (crossed v f enters)

-- the step where it is asked
module _ (R : Rows) (T : LentTables) (asked : Asked) (question : Question) where
  pub start_steps : (i : Node) → asked ≡ Start i
      → step_at R T question i.0 (hop_at R.low R.high i.0 (get_or T.routing (i.0 * R.nodes + question.destination.0) 0))
      ≡ step_of R T asked question
  unfolding step_of decides entry_read tables_for
  start_steps i e = rw e

  pub arrival_steps : (h : Interface) (i : Node) → asked ≡ Arrival h → i.0 ≡ head (network_of R) h.0
      → step_at R T question i.0 (hop_at R.low R.high i.0 (get_or T.forwarding (h.0 * R.nodes + question.destination.0) 0))
      ≡ step_of R T asked question
  unfolding step_of decides entry_read tables_for
  arrival_steps h i e same = rw (e, same)
