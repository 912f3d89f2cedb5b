-- What a step or a walk is asked: the first refusal of the question, and what is known of a question that is taken.
use Prim.Native.Nat.{ℕ, ◌*◌, ◌/◌, ◌<◌}
use mathlib.Core.Bool.{Bool, true, false}
use mathlib.Core.Path.{◌≡◌, refl, sym, ◌∙◌}
use native.Mathlib.Decide.{dec_le}
use native.Mathlib.Omega.{arith}
use borrow.Author.Tests.{le-leb, lt-leb, leb-false}
use lib.Dec.{leb}
use Rattle.graph.specs.Network.{link}
use Rattle.net.specs.Choice.{pick}
use Rattle.net.specs.Refusals.{accepted}
use Rattle.net.specs.Failure.{failure_number}
use Rattle.net.specs.declared.interface.Node.{Node}
use Rattle.net.specs.declared.interface.Interface.{Interface}
use Rattle.net.proofs.Verdicts.{number_accepted}
use Rattle.walk.specs.Step.{bad_interface, bad_start, step_number}
use Rattle.walk.specs.Walk.{walk_number}
use Rattle.walk.specs.declared.question.Question.{Question}
use Rattle.walk.specs.declared.steps.Asked.{Asked}
use Rattle.walk.specs.declared.steps.Asked.TheVariants.{Start, Arrival}

-- an interface is below twice the link count where its link is below that count
half_within : (links h : ℕ) → leb links (link h) ≡ leb (2 * links) h
unfolding link
half_within links h =
    elim (dec_le (2 * links) h) [
      | yes e ↦ le-leb links (h / 2) (omega arith) ∙ sym (le-leb _ _ e)
      | no e ↦ lt-leb links (h / 2) (omega arith) ∙ sym (lt-leb (2 * links) h (omega arith))
    ]

-- where the step is asked
module _ (asked : Asked) (k : ℕ) where
  pub start_enters_none : (i : Node) → asked ≡ Start i → bad_interface k asked ≡ false
  unfolding bad_interface
  start_enters_none i e = rw e

  pub arrival_enters : (h : Interface) → asked ≡ Arrival h → bad_interface k asked ≡ leb k (link h.0)
  unfolding bad_interface
  arrival_enters h e = rw e (sym (half_within k h.0))

  pub start_at : (i : Node) → asked ≡ Start i → bad_start k asked ≡ leb k i.0
  unfolding bad_start
  start_at i e = rw e

  pub arrival_starts_none : (h : Interface) → asked ≡ Arrival h → bad_start k asked ≡ false
  unfolding bad_start
  arrival_starts_none h e = rw e

-- a walk asks what a step asks at its source
pub asked_as_start : (n links : ℕ) (source : Node) (question : Question)
    → step_number n links (Start source) question ≡ walk_number n links source.0 question
unfolding step_number walk_number bad_interface bad_start
asked_as_start n links source question = refl

-- a refusal that was passed found its test false
passed : (test : Bool) {number rest : ℕ} → 0 < number → pick test number rest ≡ accepted → (test ≡ false) × (rest ≡ accepted)
passed true h e = absurd (omega arith)
passed false h e = (refl, e)

-- a step's question that is taken
module _ (n links : ℕ) (asked : Asked) (question : Question) (taken : step_number n links asked question ≡ accepted) where
  step_fine : (bad_interface links asked ≡ false) × (bad_start n asked ≡ false) × (question.destination.0 < n)
  unfolding step_number
  step_fine =
      let (interface, rest) = passed (bad_interface links asked) (omega arith) taken in
      let (failed, rest₂) = number_accepted (failure_number links question.failure) _ rest in
      let (start, rest₃) = passed (bad_start n asked) (omega arith) rest₂ in
      let (destination, rest₄) = passed (leb n question.destination.0) (omega arith) rest₃ in
      (interface, start, leb-false n question.destination.0 destination)

  pub asked_destination : question.destination.0 < n
  asked_destination = step_fine.2

  pub asked_start : (i : Node) → asked ≡ Start i → i.0 < n
  asked_start i e = leb-false n i.0 (sym (start_at asked n i e) ∙ step_fine.1)

  pub asked_arrival : (h : Interface) → asked ≡ Arrival h → h.0 < 2 * links
  unfolding bad_interface
  asked_arrival h e = leb-false (2 * links) h.0 (rw e at step_fine.0)

-- a walk's
module _ (n links s : ℕ) (question : Question) (taken : walk_number n links s question ≡ accepted) where
  walk_fine : (s < n) × (question.destination.0 < n)
  unfolding walk_number
  walk_fine =
      let (failed, rest) = number_accepted (failure_number links question.failure) _ taken in
      let (source, rest₂) = passed (leb n s) (omega arith) rest in
      let (destination, rest₃) = passed (leb n question.destination.0) (omega arith) rest₂ in
      (leb-false n s source, leb-false n question.destination.0 destination)

  pub walk_source : s < n
  walk_source = walk_fine.0

  pub walk_destination : question.destination.0 < n
  walk_destination = walk_fine.1
