-- What the writer answers and leaves in the room, by its tests: a network that is refused, a room that is too short, a plan that is
-- written.
use Prim.Native.Nat.{ℕ, ◌≤◌, ◌<◌}
use mathlib.Core.Path.{◌≡◌, ap, ◌∙◌}
use mathlib.Core.Logic.{◌≢◌}
use mathlib.Core.List.{List}
use native.Mathlib.Omega.{arith}
use borrow.Author.Tests.{lt-ltb, le-ltb, ne_eqb}
use lib.ListN.{length}
use Rattle.net.specs.Refusals.{accepted, room}
use Rattle.net.specs.Rows.{Rows}
use Rattle.net.specs.Check.{check_network, verdict, Accepted}
use Rattle.net.specs.inner.Overwritten.{overwritten}
use Rattle.net.specs.Verdict.{Verdict}
use Rattle.net.proofs.Accepted.{accepts_check}
use Rattle.net.proofs.Overwrite.{over_start}
use Rattle.net.proofs.Verdicts.{or_else_first, or_else_second, is_refused, not_refused}
use Rattle.plan.specs.Plan.{plan_of}
use Rattle.plan.specs.Writer.{Written, write_verdict, unwritten, written, write_plan, room_after}

module _ (R : Rows) (space : List ℕ) where
  -- an answer, and the room at exit, as the contract says them
  abbrev pub Writes : Written → List ℕ → Type 0
  Writes answer after = (answer ≡ write_plan R space) × (after ≡ room_after R space)

  -- whichever refusal is the first, the room is left as it was
  refuses : (first : Verdict) → write_verdict R space ≡ first → first.number ≢ accepted → Writes (unwritten first) space
  unfolding write_plan room_after
  refuses first e refused =
      let test = ne_eqb first.number accepted refused in
      (rw (e, test), rw (e, test))

  pub network_refused : (check_network R).number ≢ accepted → Writes (unwritten (check_network R)) space
  unfolding write_verdict
  network_refused refused = refuses (check_network R) (or_else_first _ _ refused) refused

  module _ (network : Accepted R) where
    checked : (check_network R).number ≡ accepted
    checked = ap (λ (answer : Verdict). answer.number) (accepts_check R network)

    pub room_short : length space < length (plan_of R) → Writes (unwritten (verdict room)) space
    unfolding write_verdict
    room_short short = refuses (verdict room) (or_else_second _ _ checked ∙ is_refused room (lt-ltb _ _ short)) (λ e. omega arith)

    module _ (enough : length (plan_of R) ≤ length space) where
      passes : write_verdict R space ≡ verdict accepted
      unfolding write_verdict
      passes = or_else_second _ _ checked ∙ not_refused room (le-ltb _ _ enough)

      pub plan_written : Writes (written (length (plan_of R))) (overwritten space 0 (plan_of R))
      unfolding write_plan room_after
      plan_written = (rw passes, rw passes (over_start space (plan_of R)))
