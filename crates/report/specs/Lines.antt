-- All lines of a report and their totals (document 01, "Report program"). Each definition stands under the words that it says.
use Rattle.std.specs.Prelude.{ℕ, zero, suc, ◌+◌, ◌-◌, List, [], ◌∷◌, ◌++◌, length, replicate, eqb, Result, Ok, Err}
use Rattle.net.specs.Limits.{most_links}
use Rattle.net.specs.Choice.{pick}
use Rattle.net.specs.Refusals.{accepted}
use Rattle.net.specs.Rows.{Rows}
use Rattle.net.specs.Told.{verdict_of}
use Rattle.net.specs.Verdict.{Verdict}
use Rattle.net.specs.declared.failure.Failure.{Failure}
use Rattle.net.specs.declared.failure.Failure.TheVariants.{Nothing, One}
use Rattle.net.specs.declared.refusal.PlacedRefusal.{PlacedRefusal}
use Rattle.tables.specs.Lent.{LentTables}
use Rattle.walk.specs.Lent.{lent_verdict}
use Rattle.report.specs.Line.{line_of, no_line}
use Rattle.report.specs.declared.counting.Line.{Line}
use Rattle.report.specs.declared.totals.Lines.{Lines as LinesMade}

-- the lines of the failed links from k on, `left` of them
unfoldable pub link_lines : ℕ → (Failure → Line) → ℕ → List Line
link_lines zero line k = []
link_lines (suc left) line k = line (One (record { 0 = k })) ∷ link_lines left line (suc k)

-- "without failure and for each failed link": line 0 is that without failure, line k + 1 that of link k
unfoldable pub lines_over : ℕ → (Failure → Line) → List Line
lines_over links line = line Nothing ∷ link_lines links line 0

unfoldable pub delivered_over : List Line → ℕ
delivered_over [] = 0
delivered_over (l ∷ lines) = l.delivered + delivered_over lines

unfoldable pub dropped_over : List Line → ℕ
dropped_over [] = 0
dropped_over (l ∷ lines) = l.dropped + dropped_over lines

-- what `all_lines` answers: number and place, the lines and their totals
pub record Lines : Type 0 where
  pub number : ℕ
  pub place : ℕ
  pub lines : List Line
  pub walks : ℕ
  pub delivered : ℕ
  pub dropped : ℕ

-- "Last: walks made and the two sums." The answer that holds these lines, with zeros past the last of them
unfoldable pub lines_held : ℕ → List Line → Lines
lines_held links lines =
    record {
      number = accepted;
      place = 0;
      lines = lines ++ replicate (most_links - links) no_line;
      walks = delivered_over lines + dropped_over lines;
      delivered = delivered_over lines;
      dropped = dropped_over lines;
    }

-- "A refused plan prints one line, [..] with its number and place": every figure is 0
unfoldable pub lines_refused : Verdict → Lines
lines_refused v =
    record
    { number = v.number; place = v.place; lines = replicate (suc most_links) no_line; walks = 0; delivered = 0; dropped = 0 }

-- the same of what the code answers: of lines that it made, and of an answer that may refuse
abbrev pub lines_named : LinesMade → Lines
lines_named made =
    record {
      number = accepted;
      place = 0;
      lines = made.lines;
      walks = made.walks;
      delivered = made.delivered;
      dropped = made.dropped;
    }

abbrev pub lines_told : Result LinesMade PlacedRefusal → Lines
lines_told (Ok made) = lines_named made
lines_told (Err refused) = lines_refused (verdict_of refused)

-- what `all_lines` answers: the network's refusals, then 14, 16
unfoldable pub lines_answer : Rows → LentTables → Lines
lines_answer R T =
    let v = lent_verdict R T accepted in
    let links = length R.low in
    pick (eqb v.number accepted) (lines_held links (lines_over links (line_of R T))) (lines_refused v)
