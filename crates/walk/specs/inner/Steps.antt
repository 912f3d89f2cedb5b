-- What the parts of a step promise, and what is known where they are asked.
use Rattle.std.specs.Prelude.{ℕ, ◌*◌, ◌<◌, length, Option, Some, None}
use Rattle.graph.specs.Network.{link}
use Rattle.graph.specs.Walk.{around}
use Rattle.net.specs.Choice.{pick}
use Rattle.net.specs.Rows.{Rows}
use Rattle.net.specs.Failure.{fails}
use Rattle.net.specs.declared.failure.Failure.{Failure}
use Rattle.net.specs.declared.interface.Interface.{Interface}
use Rattle.net.specs.declared.interface.Node.{Node}
use Rattle.tables.specs.Lent.{LentTables}
use Rattle.walk.specs.Lent.{tables_for}
use Rattle.walk.specs.Step.{Stepped, told}
use Rattle.walk.specs.declared.question.Question.{Question}

-- the step past the failed link, by the backwarding entry of interface f
unfoldable pub step_around : Rows → LentTables → Question → ℕ → Stepped
step_around R T question f = told R (around (fails question.failure) ((tables_for R T question.destination.0).backwarding f))

-- what an entry finds, but over a link that has failed
unfoldable pub unblocked : Failure → Option (Node × Interface) → Option (Node × Interface)
unblocked failure None = None
unblocked failure (Some (v, g)) = pick (fails failure (link g.0)) None (Some (v, g))

-- a packet stands at node i
pub record Placed (R : Rows) (question : Question) (i : ℕ) : Type 0 where
  pub destination : question.destination.0 < R.nodes
  pub node : i < R.nodes

-- and its entry leads over the failed link, by interface f
pub record Rerouted (R : Rows) (question : Question) (i f : ℕ) : Type 0 where
  pub placed : Placed R question i
  pub interface : f < 2 * length R.low
