-- How the code counts: one walk more, the walks of one source more, and what is known where it does.
use Rattle.std.specs.Prelude.{ℕ, ◌+◌, ◌*◌, ◌<◌, ◌≤◌, max, List, length, eqb}
use Rattle.graph.specs.Walk.{delivered, Course}
use Rattle.net.specs.Limits.{most_nodes, report_hops}
use Rattle.net.specs.Choice.{pick}
use Rattle.net.specs.Rows.{Rows}
use Rattle.net.specs.declared.failure.Failure.{Failure}
use Rattle.tables.specs.Lent.{LentTables}
use Rattle.walk.specs.Walk.{ending_number, course_of}
use Rattle.report.specs.Line.{sum_below, most_below, counts_delivered, counts_other, counts_hops}
use Rattle.report.specs.declared.counting.Line.{Line}

-- the walk from s to d
abbrev pub course_at : Rows → LentTables → Failure → ℕ → ℕ → Course
course_at R T failure s d = course_of R T s (record { destination = record { 0 = d }; failure = failure }) report_hops

-- one walk more, by its ending and hop count
unfoldable pub counted_line : Line → ℕ → ℕ → Line
counted_line line ending hops =
    pick (eqb ending (ending_number delivered))
    (record { delivered = line.delivered + 1; dropped = line.dropped; hops = line.hops + hops; longest = max line.longest hops })
    (record { delivered = line.delivered; dropped = line.dropped + 1; hops = line.hops; longest = line.longest })

-- the walks from s to the destinations below a count, added to a line
unfoldable pub line_below : ℕ → ℕ → (ℕ → Course) → Line → Line
line_below count s course line =
    record {
      delivered = line.delivered + sum_below count (λ d. pick (eqb d s) 0 (counts_delivered (course d)));
      dropped = line.dropped + sum_below count (λ d. pick (eqb d s) 0 (counts_other (course d)));
      hops = line.hops + sum_below count (λ d. pick (eqb d s) 0 (counts_hops (course d)));
      longest = max line.longest (most_below count (λ d. pick (eqb d s) 0 (counts_hops (course d))));
    }

-- no more than so many walks have been counted
pub record AtMostWalks (walks : ℕ) (line : Line) : Type 0 where
  pub delivered : line.delivered ≤ walks
  pub dropped : line.dropped ≤ walks
  pub hops : line.hops ≤ walks * report_hops

-- what is known where a walk is counted
pub record OneMore (line : Line) (hops : ℕ) : Type 0 where
  pub counted : AtMostWalks (most_nodes * most_nodes) line
  pub short : hops ≤ report_hops

-- what is known where the walks of a source are made, those of the sources before it having been counted
pub record Source (R : Rows) (s : ℕ) (line : Line) (trace : List ℕ) : Type 0 where
  pub source : s < R.nodes
  pub room : report_hops < length trace
  pub counted : AtMostWalks (s * R.nodes) line
