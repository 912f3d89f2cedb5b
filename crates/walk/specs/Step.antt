-- The step (document 01, "Steps and walks"), over the tables as they are lent.
use Rattle.std.specs.Prelude.{ℕ, ◌*◌, Bool, false, length, eqb, leb, Result, Ok, Err}
use Rattle.graph.specs.Network.{head}
use Rattle.graph.specs.Entries.{Hop}
use Rattle.graph.specs.Walk.{Tables, Step, crosses, nothing, drops, step_by}
use Rattle.net.specs.Choice.{pick}
use Rattle.net.specs.Refusals.{accepted, interface_number, node_number}
use Rattle.net.specs.Rows.{Rows, network_of}
use Rattle.net.specs.Check.{first_number}
use Rattle.net.specs.Failure.{fails, failure_number}
use Rattle.net.specs.Told.{number_of}
use Rattle.net.specs.declared.interface.Interface.{Interface}
use Rattle.net.specs.declared.interface.Node.{Node}
use Rattle.net.specs.declared.refusal.PlacedRefusal.{PlacedRefusal}
use Rattle.tables.specs.Lent.{LentTables}
use Rattle.walk.specs.Lent.{tables_for, lent_verdict}
use Rattle.walk.specs.declared.question.Question.{Question}
use Rattle.walk.specs.declared.steps.Asked.{Asked}
use Rattle.walk.specs.declared.steps.Asked.TheVariants.{Start, Arrival}
use Rattle.walk.specs.declared.steps.Stepped.{Stepped as SteppedOn}
use Rattle.walk.specs.declared.steps.Stepped.TheVariants.{Delivered as OnDelivered, NothingToFollow as OnNothing, Dropped as OnDropped, Next as OnNext}

-- What a step answers: its refusal with number and place, or "delivered, nothing to follow, dropped, or the next node with the interface
-- entered".
pub data Stepped : Type 0 where
  Refused : ℕ → ℕ → Stepped
  Delivered : Stepped
  NothingToFollow : Stepped
  Dropped : Stepped
  Next : Node → Interface → Stepped

-- the same of the code's answer, where nothing is refused and where something may be
abbrev pub step_named : SteppedOn → Stepped
step_named OnDelivered = Delivered
step_named OnNothing = NothingToFollow
step_named OnDropped = Dropped
step_named (OnNext node interface) = Next node interface

abbrev pub stepped_told : Result SteppedOn PlacedRefusal → Stepped
stepped_told (Ok on) = step_named on
stepped_told (Err refused) = Refused (number_of refused.refusal) refused.place

-- "A step is asked either at a start node or on arrival over an interface": 13 for an interface, 11 for a start node
unfoldable pub bad_interface : ℕ → Asked → Bool
bad_interface links (Start i) = false
bad_interface links (Arrival h) = leb (2 * links) h.0

unfoldable pub bad_start : ℕ → Asked → Bool
bad_start n (Start i) = leb n i.0
bad_start n (Arrival h) = false

-- 13, 12, 11 (the start node, then the destination): the first that holds, or 0
unfoldable pub step_number : ℕ → ℕ → Asked → Question → ℕ
step_number n links asked question =
    pick (bad_interface links asked) interface_number
    (first_number (failure_number links question.failure)
    (pick (bad_start n asked) node_number
    (pick (leb n question.destination.0) node_number accepted)))

-- the deciding node, and the entry that is read there
unfoldable pub decides : Rows → Asked → ℕ
decides R (Start i) = i.0
decides R (Arrival h) = head (network_of R) h.0

unfoldable pub entry_read : Tables → Asked → Hop
entry_read T (Start i) = T.routing i.0
entry_read T (Arrival h) = T.forwarding h.0

-- "A step answers delivered, nothing to follow, dropped, or the next node with the interface entered."
unfoldable pub told : Rows → Step → Stepped
told R (crosses f) = Next (record { 0 = head (network_of R) f }) (record { 0 = f })
told R nothing = NothingToFollow
told R drops = Dropped

-- "The node is the destination: delivered. Otherwise it reads the routing or the forwarding entry."
unfoldable pub step_at : Rows → LentTables → Question → ℕ → Hop → Stepped
step_at R T question i entry =
    let d = question.destination.0 in
    pick (eqb i d) Delivered (told R (step_by (fails question.failure) (tables_for R T d).backwarding entry))

unfoldable pub step_of : Rows → LentTables → Asked → Question → Stepped
step_of R T asked question = step_at R T question (decides R asked) (entry_read (tables_for R T question.destination.0) asked)

-- what the public entry answers
unfoldable pub step_answer : Rows → LentTables → Asked → Question → Stepped
step_answer R T asked question =
    let v = lent_verdict R T (step_number R.nodes (length R.low) asked question) in
    pick (eqb v.number accepted) (step_of R T asked question) (Refused v.number v.place)
