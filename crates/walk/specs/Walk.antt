-- The walk (document 01, "Steps and walks"), over the tables as they are lent: graph's walk, told by its numbers.
use Rattle.std.specs.Prelude.{ℕ, Bool, List, ◌++◌, length, drop, eqb, leb, Result, Ok, Err}
use Rattle.graph.specs.Path.{visits}
use Rattle.graph.specs.Walk.{Ending, delivered, unrouted, dropped, exhausted, Course, walk_of}
use Rattle.net.specs.Choice.{pick}
use Rattle.net.specs.Refusals.{accepted, node_number, trace_length}
use Rattle.net.specs.Rows.{Rows, network_of}
use Rattle.net.specs.Check.{or_else, refused_if, first_number}
use Rattle.net.specs.Failure.{fails, failure_number}
use Rattle.net.specs.Told.{number_of}
use Rattle.net.specs.Verdict.{Verdict}
use Rattle.net.specs.declared.refusal.PlacedRefusal.{PlacedRefusal}
use Rattle.tables.specs.Lent.{LentTables}
use Rattle.walk.specs.Lent.{tables_for, lent_verdict}
use Rattle.walk.specs.declared.question.Question.{Question}
use Rattle.walk.specs.declared.walked.Ending.{Ending as EndingSaid}
use Rattle.walk.specs.declared.walked.Ending.TheVariants.{Delivered, Unrouted, Dropped, Exhausted}
use Rattle.walk.specs.declared.walked.Walked.{Walked as WalkedOn}

-- "Endings: 0 delivered; 1 no entry at the start; 2 dropped at the failed link; 3 hop limit used"; 4 is gone (document 02, L7).
unfoldable pub ending_number : Ending → ℕ
ending_number delivered = 0
ending_number unrouted = 1
ending_number dropped = 2
ending_number exhausted = 3

-- which ending the code's answer says
abbrev pub ending_named : EndingSaid → Ending
ending_named Delivered = delivered
ending_named Unrouted = unrouted
ending_named Dropped = dropped
ending_named Exhausted = exhausted

-- 12, 11 (source, then destination): the first that holds, or 0
unfoldable pub walk_number : ℕ → ℕ → ℕ → Question → ℕ
walk_number n links s question =
    first_number (failure_number links question.failure)
    (pick (leb n s) node_number
    (pick (leb n question.destination.0) node_number accepted))

-- the refusals of network, question and tables, then 15
unfoldable pub walk_verdict : Rows → LentTables → ℕ → Question → ℕ → List ℕ → Verdict
walk_verdict R T s question limit trace =
    or_else (lent_verdict R T (walk_number R.nodes (length R.low) s question)) (refused_if (leb (length trace) limit) trace_length)

-- the walk over the lent tables from s to d, whatever links have failed
abbrev pub course_under : (ℕ → Bool) → Rows → LentTables → ℕ → ℕ → ℕ → Course
course_under failed R T s d limit = walk_of (network_of R) failed (tables_for R T d) d limit s

-- and under the failure that is asked
unfoldable pub course_of : Rows → LentTables → ℕ → Question → ℕ → Course
course_of R T s question limit = course_under (fails question.failure) R T s question.destination.0 limit

-- "A walk's answer is its ending, its hop count and, in the trace, hops + 1 nodes, source first." After a refusal ending and hop count
-- are 0.
pub record Walked : Type 0 where
  pub number : ℕ
  pub place : ℕ
  pub ending : ℕ
  pub hops : ℕ

-- the same of the code's answer
abbrev pub walked_told : Result WalkedOn PlacedRefusal → Walked
walked_told (Ok on) = record { number = accepted; place = 0; ending = ending_number (ending_named on.ending); hops = on.hops }
walked_told (Err refused) = record { number = number_of refused.refusal; place = refused.place; ending = 0; hops = 0 }

unfoldable pub walked_by : Verdict → Course → Walked
walked_by v course =
    pick (eqb v.number accepted)
    (record { number = accepted; place = 0; ending = ending_number course.ending; hops = length course.crossed })
    (record { number = v.number; place = v.place; ending = 0; hops = 0 })

unfoldable pub walk_answer : Rows → LentTables → ℕ → Question → ℕ → List ℕ → Walked
walk_answer R T s question limit trace = walked_by (walk_verdict R T s question limit trace) (course_of R T s question limit)

-- the trace afterwards: the nodes visited, then what stood there; untouched where the walk is refused
unfoldable pub trace_after : Rows → LentTables → ℕ → Question → ℕ → List ℕ → List ℕ
trace_after R T s question limit trace =
    let nodes = visits (network_of R) s (course_of R T s question limit).crossed in
    pick (eqb (walk_verdict R T s question limit trace).number accepted) (nodes ++ drop (length nodes) trace) trace
