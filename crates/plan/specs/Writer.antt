-- The writer: "Every entry on a network in memory checks 9, 3, 4, then link by link 5, 7, 6" (and 7, document 02, L5) "[..] Then its own",
-- here 10, "the room for the plan is shorter than the plan". "After success only the bytes written differ; the plan writer answers with
-- their count."
use Rattle.std.specs.Prelude.{ℕ, List, ◌++◌, length, drop, ltb, eqb}
use Rattle.net.specs.Refusals.{accepted, room}
use Rattle.net.specs.Choice.{pick}
use Rattle.net.specs.Rows.{Rows}
use Rattle.net.specs.Check.{check_network, or_else, refused_if}
use Rattle.net.specs.Verdict.{Verdict}
use Rattle.plan.specs.Plan.{plan_of}

-- "the plan writer answers with their count", and as every entry with a number and a place
pub record Written : Type 0 where
  pub number : ℕ
  pub place : ℕ
  pub count : ℕ

-- the first refusal, given the room as it was
unfoldable pub write_verdict : Rows → List ℕ → Verdict
write_verdict R space = or_else (check_network R) (refused_if (ltb (length space) (length (plan_of R))) room)

-- "Refused answers carry 0 in every part not named here": here the count.
abbrev pub unwritten : Verdict → Written
unwritten verdict = record { number = verdict.number; place = verdict.place; count = 0 }

-- "Success has number 0, place 0"
abbrev pub written : ℕ → Written
written count = record { number = accepted; place = 0; count = count }

-- what the writer answers
unfoldable pub write_plan : Rows → List ℕ → Written
write_plan R space =
    pick (eqb (write_verdict R space).number accepted) (written (length (plan_of R))) (unwritten (write_verdict R space))

-- the room afterwards: the plan and then what stood there, or "no lent byte changes"
unfoldable pub room_after : Rows → List ℕ → List ℕ
room_after R space = pick (eqb (write_verdict R space).number accepted) (plan_of R ++ drop (length (plan_of R)) space) space
