-- Nothing is lost between a stored plan and its network: a plan that is accepted, read and written again is the same bytes, and a
-- network that is accepted, written and read again is the same network. The bytes that are accepted are the plan of the network that is
-- read from them (Faults), and the writer writes that plan.
use Prim.Native.Nat.{ℕ, ◌-◌, ◌≤◌}
use mathlib.Core.Path.{◌≡◌, refl, sym, ◌∙◌}
use mathlib.Core.List.{List, ◌++◌}
use lib.ListN.{length, take, drop, replicate}
use lib.Seq.{take-append_seam, take_at}
use Rattle.net.specs.Limits.{most_links}
use Rattle.net.specs.Refusals.{accepted}
use Rattle.net.specs.Rows.{Rows}
use Rattle.net.specs.Check.{Accepted}
use Rattle.net.proofs.Overwrite.{over_start}
use Rattle.plan.specs.Plan.{plan_of}
use Rattle.plan.specs.Reader.{Reading, rows_read, read_plan}
use Rattle.plan.specs.Writer.{written, write_plan, room_after}
use Rattle.plan.specs.Fault.{Bytes, padded, acceptance}
use Rattle.plan.proofs.Faults.{plan_reads, plan_read, accepted_exactly}
use Rattle.plan.proofs.Answers.{plan_written}

-- The plan s of the rows R, written: its bytes, and the rest of the room as it was.
pub record WrittenAgain (s : List ℕ) (R : Rows) (room : List ℕ) : Type 0 where
  pub answer : write_plan R room ≡ written (length s)
  pub bytes : room_after R room ≡ s ++ drop (length s) room

-- The reading of a plan of the rows R: all of it, so also the zeros past the last link.
pub record ReadAgain (R : Rows) (reading : Reading) : Type 0 where
  pub answer : reading ≡ acceptance R
  pub rows : rows_read reading.network ≡ R

-- the rows of an acceptance are those of its network again
links_of : (row low : List ℕ) → length row ≡ length low → take (length low) (padded row) ≡ row
links_of row low same = take_at row (replicate (most_links - length row) 0) (length low) same

rows_accepted : {R : Rows} → Accepted R → rows_read (acceptance R).network ≡ R
rows_accepted {R} network =
    rw (
      links_of R.low R.low refl,
      links_of R.high R.low network.high_row,
      links_of R.weight R.low network.weight_row,
    )

writes : {R : Rows} → Accepted R → (room : List ℕ) → length (plan_of R) ≤ length room → WrittenAgain (plan_of R) R room
writes {R} network room enough =
    let done = plan_written R room network enough in
    record { answer = sym done.0; bytes = sym done.1 ∙ over_start room (plan_of R) }

pub plan_survives : {s : List ℕ} → Bytes s → (read_plan s).number ≡ accepted → (room : List ℕ) → length s ≤ length room
    → WrittenAgain s (rows_read (read_plan s).network) room
plan_survives bytes read room enough =
    let plan = (accepted_exactly bytes).0 read in
    rw (plan_read plan, rows_accepted plan.network) (rw (← plan.bytes) at (writes plan.network room (rw plan.bytes at enough)))

pub network_survives : {R : Rows} → Accepted R → (room : List ℕ) → length (plan_of R) ≤ length room
    → ReadAgain R (read_plan (take (write_plan R room).count (room_after R room)))
network_survives {R} network room enough =
    let done = writes network room enough in
    rw (done.answer, done.bytes, take-append_seam (plan_of R) (drop (length (plan_of R)) room), plan_reads network)
    (record { answer = refl; rows = rows_accepted network })
