-- One verdict and one branch. Where nothing is refused, the step is made at the start node with its routing entry, or at the head of the
-- interface entered with its forwarding entry.
use Prim.Native.Nat.{ℕ, ◌+◌, ◌*◌, ◌^◌, ◌<◌, ◌≤◌}
use mathlib.Core.Path.{◌≡◌, refl, sym, ap, subst, ◌∙◌}
use native.Mathlib.Omega.{arith}
use lib.ListN.{length}
use mir.Syntax.{w64}
use mir.Val.{Fits}
use Rattle.net.specs.declared.interface.Interface.{Interface}
use Rattle.net.specs.declared.interface.Node.{Node}
use Rattle.net.specs.Refusals.{accepted}
use Rattle.net.specs.Rows.{Rows, head_of}
use Rattle.net.specs.Check.{Accepted}
use Rattle.net.proofs.Told.{number_refuses}
use Rattle.net.proofs.Rows.{head_of_lem}
use Rattle.net.specs.Lent.{rows_lent}
use Rattle.net.specs.declared.lent_rows.LentRows.{LentRows}
use Rattle.tables.specs.Lent.{LentTables, LongEnough, tables_lent}
use Rattle.tables.specs.declared.lent.Tables.{Tables}
use Rattle.walk.specs.Lent.{hop_at, lent_verdict}
use Rattle.walk.specs.Step.{step_number, step_at, step_of, stepped_told, step_answer}
use Rattle.walk.specs.inner.Reading.{Ready}
use Rattle.walk.specs.inner.Steps.{Placed}
use Rattle.walk.specs.declared.question.Question.{Question}
use Rattle.walk.specs.declared.steps.Asked.{Asked}
use Rattle.walk.specs.declared.steps.Asked.TheVariants.{Start, Arrival}
use Rattle.net.specs.Verdict.{Verdict}
use Rattle.walk.proofs.Asking.{asked_destination, asked_start, asked_arrival}
use Rattle.walk.proofs.Below.{row_within}
use Rattle.walk.proofs.Grounds.{row_fits, place_fits, place_within, forwarding_row, enters_node}
use Rattle.walk.proofs.Stepping.{start_steps, arrival_steps}
use Rattle.walk.proofs.Told.{handed}
use Rattle.walk.proofs.Verdicts.{lent_network, lent_long, question_taken, step_refused, step_taken}
use Rattle.walk.proofs.steps.step.Goals as goal

-- the question has been judged, and nothing is refused
module _ (R : Rows) (T : LentTables) (asked : Asked) (question : Question) {verdict : Verdict} {number : ℕ}
    (judged : verdict ≡ lent_verdict R T number) (numbered : number ≡ step_number R.nodes (length R.low) asked question)
    (free : verdict.number ≡ accepted) where
  -- so the question, the network and the tables are as they are asked for
  taken : step_number R.nodes (length R.low) asked question ≡ accepted
  taken = sym numbered ∙ question_taken R T number judged free

  destination : question.destination.0 < R.nodes
  destination = asked_destination _ _ _ question taken

  network : Accepted R
  network = lent_network R T number judged free

  long : LongEnough R.nodes (length R.low) T
  long = lent_long R T number judged free

  ready : Ready R T
  ready = record { network = network; long = long }

  -- asked at a start node, whose row is in the routing table
  module _ {node : Node} (is : asked ≡ Start node) where
    node_below : node.0 < R.nodes
    node_below = asked_start _ _ _ question taken _ is

    start_row : node.0 * R.nodes + R.nodes ≤ length T.routing
    start_row = row_within _ _ node.0 _ node_below long.for_routing

    routing_within : node.0 * R.nodes + question.destination.0 < length T.routing
    routing_within = place_within _ _ _ _ start_row destination

    -- the step at the start node may be asked
    placed_start : Placed R question node.0
    placed_start = record { destination = destination; node = node_below }

    module _ (table : length T.routing < 2 ^ 64) where
      routing_row_fits : Fits w64 (node.0 * R.nodes)
      routing_row_fits = row_fits _ _ _ start_row table

      routing_place_fits : Fits w64 (node.0 * R.nodes + question.destination.0)
      routing_place_fits = place_fits _ _ _ _ start_row destination table

  -- asked on arrival over an interface, whose row is in the forwarding table
  module _ {h : Interface} (is : asked ≡ Arrival h) where
    interface_below : h.0 < 2 * length R.low
    interface_below = asked_arrival _ _ _ question taken _ is

    arrival_row : h.0 * R.nodes + R.nodes ≤ length T.forwarding
    arrival_row = forwarding_row ready h.0 interface_below

    forwarding_within : h.0 * R.nodes + question.destination.0 < length T.forwarding
    forwarding_within = place_within _ _ _ _ arrival_row destination

    -- the step at the head of the interface may be asked
    placed_arrival : {i : ℕ} → i ≡ head_of R.low R.high h.0
        → Placed R question i
    placed_arrival told =
        record {
          destination = destination;
          node = rw (told ∙ sym (head_of_lem R h.0)) (enters_node ready h.0 interface_below);
        }

    module _ (table : length T.forwarding < 2 ^ 64) where
      forwarding_row_fits : Fits w64 (h.0 * R.nodes)
      forwarding_row_fits = row_fits _ _ _ arrival_row table

      forwarding_place_fits : Fits w64 (h.0 * R.nodes + question.destination.0)
      forwarding_place_fits = place_fits _ _ _ _ arrival_row destination table

  -- the step that is made is the answer
  step_made : step_of R T asked question ≡ step_answer R T asked question
  step_made = step_taken R T asked question (judged ∙ ap (lent_verdict R T) numbered) free

-- what is known beside the rows lent is known beside the checked network, and the step over the checked tables is that over what was lent
placed_same : {network lent : LentRows} → network ≡ lent → {question : Question} {i : ℕ} → Placed (rows_lent lent) question i
    → Placed (rows_lent network) question i
placed_same same {question} {i} = subst (λ (rows : LentRows). Placed (rows_lent rows) question i) (sym same)

step_same : {network lent : LentRows} {tables tables_given : Tables} → network ≡ lent → tables ≡ tables_given
    → (question : Question) (i byte : ℕ)
    → step_at (rows_lent network) (tables_lent tables) question i (hop_at network.low.now network.high.now i byte)
    ≡ step_at (rows_lent lent) (tables_lent tables_given) question i (hop_at lent.low.now lent.high.now i byte)
step_same same_network same_tables question i byte =
    λ t. step_at (rows_lent (same_network t)) (tables_lent (same_tables t)) question i
    (hop_at (same_network t).low.now (same_network t).high.now i byte)

pub returns-in_err-checked : goal.returns-in_err-checked
returns-in_err-checked c =
    ap stepped_told (handed _ _ c.from_residual.ensures.1)
    ∙ step_refused _ _ _ _ (c.in_err-checked.ensures.refusal ∙ ap (lent_verdict _ _) c.check_step.ensures)
    (number_refuses c.in_err-checked.field-0.0.refusal)

pub overflow_mul-i : goal.overflow_mul-i
overflow_mul-i c = routing_row_fits _ _ _ _ c.in_ok-checked.ensures.refusal c.check_step.ensures refl c.in-Start.is (omega arith)

pub overflow_add-i : goal.overflow_add-i
overflow_add-i c = routing_place_fits _ _ _ _ c.in_ok-checked.ensures.refusal c.check_step.ensures refl c.in-Start.is (omega arith)

pub bounds-tables-i : goal.bounds-tables-i
bounds-tables-i c = routing_within _ _ _ _ c.in_ok-checked.ensures.refusal c.check_step.ensures refl c.in-Start.is

pub step_at-requires : goal.step_at-requires
step_at-requires c =
    placed_same c.in_ok-checked.ensures.same_network
    (placed_start _ _ _ _ c.in_ok-checked.ensures.refusal c.check_step.ensures refl c.in-Start.is)

pub overflow_mul-h : goal.overflow_mul-h
overflow_mul-h c = forwarding_row_fits _ _ _ _ c.in_ok-checked.ensures.refusal c.check_step.ensures refl c.in-Arrival.is (omega arith)

pub overflow_add-h : goal.overflow_add-h
overflow_add-h c = forwarding_place_fits _ _ _ _ c.in_ok-checked.ensures.refusal c.check_step.ensures refl c.in-Arrival.is (omega arith)

pub bounds-tables-h : goal.bounds-tables-h
bounds-tables-h c = forwarding_within _ _ _ _ c.in_ok-checked.ensures.refusal c.check_step.ensures refl c.in-Arrival.is

pub step_at-requires-in-Arrival : goal.step_at-requires-in-Arrival
step_at-requires-in-Arrival c =
    placed_same c.in_ok-checked.ensures.same_network
    (placed_arrival _ _ _ _ c.in_ok-checked.ensures.refusal c.check_step.ensures refl c.in-Arrival.is c.head_of.ensures)

pub returns-in-Start : goal.returns-in-Start
returns-in-Start c =
    c.step_at.ensures
    ∙ step_same c.in_ok-checked.ensures.same_network c.in_ok-checked.ensures.same_tables _ _ _
    ∙ start_steps _ _ _ _ _ c.in-Start.is
    ∙ step_made _ _ _ _ c.in_ok-checked.ensures.refusal c.check_step.ensures refl

pub returns-in-Arrival : goal.returns-in-Arrival
returns-in-Arrival c =
    c.step_at-in-Arrival.ensures
    ∙ step_same c.in_ok-checked.ensures.same_network c.in_ok-checked.ensures.same_tables _ _ _
    ∙ arrival_steps _ _ _ _ _ _ c.in-Arrival.is (c.head_of.ensures ∙ sym (head_of_lem _ c.in-Arrival.h.0))
    ∙ step_made _ _ _ _ c.in_ok-checked.ensures.refusal c.check_step.ensures refl
