-- One failure line (document 01, "Report program"). Each definition stands under the words that it says.
use Rattle.std.specs.Prelude.{ℕ, zero, suc, ◌+◌, max, Bool, length, eqb, Result, Ok, Err}
use Rattle.graph.specs.Walk.{Ending, delivered, Course}
use Rattle.net.specs.Limits.{report_hops}
use Rattle.net.specs.Choice.{pick}
use Rattle.net.specs.Refusals.{accepted}
use Rattle.net.specs.Rows.{Rows}
use Rattle.net.specs.Failure.{failure_number}
use Rattle.net.specs.Told.{number_of}
use Rattle.net.specs.Verdict.{Verdict}
use Rattle.net.specs.declared.failure.Failure.{Failure}
use Rattle.net.specs.declared.refusal.PlacedRefusal.{PlacedRefusal}
use Rattle.tables.specs.Lent.{LentTables}
use Rattle.walk.specs.Lent.{lent_verdict}
use Rattle.walk.specs.Walk.{ending_number, course_of}
use Rattle.report.specs.declared.counting.Line.{Line}

-- a sum and a maximum over the numbers below a count
unfoldable pub sum_below : ℕ → (ℕ → ℕ) → ℕ
sum_below zero f = 0
sum_below (suc count) f = sum_below count f + f count

unfoldable pub most_below : ℕ → (ℕ → ℕ) → ℕ
most_below zero f = 0
most_below (suc count) f = max (most_below count f) (f count)

-- "every ordered pair of different nodes"
unfoldable pub sum_over_pairs : ℕ → (ℕ → ℕ → ℕ) → ℕ
sum_over_pairs n f = sum_below n (λ s. sum_below n (λ d. pick (eqb d s) 0 (f s d)))

unfoldable pub most_over_pairs : ℕ → (ℕ → ℕ → ℕ) → ℕ
most_over_pairs n f = most_below n (λ s. most_below n (λ d. pick (eqb d s) 0 (f s d)))

-- whether a walk has this ending, by its number
unfoldable pub ends_with : Ending → Course → Bool
ends_with ending c = eqb (ending_number c.ending) (ending_number ending)

-- "walks ended by 0": what one walk counts for
unfoldable pub counts_delivered : Course → ℕ
counts_delivered c = pick (ends_with delivered c) 1 0

-- "all other walks"
unfoldable pub counts_other : Course → ℕ
counts_other c = pick (ends_with delivered c) 0 1

-- "hops [..] over delivered walks"
unfoldable pub counts_hops : Course → ℕ
counts_hops c = pick (ends_with delivered c) (length c.crossed) 0

-- "walks ended by 0, all other walks, hops summed over delivered walks, most hops of a delivered walk (0 if none)"
unfoldable pub line_over : ℕ → (ℕ → ℕ → Course) → Line
line_over n course =
    record {
      delivered = sum_over_pairs n (λ s d. counts_delivered (course s d));
      dropped = sum_over_pairs n (λ s d. counts_other (course s d));
      hops = sum_over_pairs n (λ s d. counts_hops (course s d));
      longest = most_over_pairs n (λ s d. counts_hops (course s d));
    }

-- "It walks every ordered pair of different nodes, [..] with hop limit 64."
unfoldable pub line_of : Rows → LentTables → Failure → Line
line_of R T failure =
    line_over R.nodes (λ s d. course_of R T s (record { destination = record { 0 = d }; failure = failure }) report_hops)

-- what `failure_line` answers; refused, every figure is 0
pub record Figures : Type 0 where
  pub number : ℕ
  pub place : ℕ
  pub line : Line

unfoldable pub no_line : Line
no_line = record { delivered = 0; dropped = 0; hops = 0; longest = 0 }

-- the same of the code's answer, by its cases
abbrev pub figures_told : Result Line PlacedRefusal → Figures
figures_told (Ok line) = record { number = accepted; place = 0; line = line }
figures_told (Err refused) = record { number = number_of refused.refusal; place = refused.place; line = no_line }

unfoldable pub figures_by : Verdict → Line → Figures
figures_by v line =
    pick (eqb v.number accepted)
    (record { number = accepted; place = 0; line = line })
    (record { number = v.number; place = v.place; line = no_line })

-- the network's refusals, then 12, 14, 16
unfoldable pub figures_answer : Rows → LentTables → Failure → Figures
figures_answer R T failure = figures_by (lent_verdict R T (failure_number (length R.low) failure)) (line_of R T failure)
