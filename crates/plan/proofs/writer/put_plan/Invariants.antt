-- `put_plan` puts the two counts and then the links, as Putting says. The loop's invariant: the links from k on, put at the present
-- place, make of the present room what all links, put at the place after the counts, make of the room as the counts leave it.
use Prim.Native.Nat.{ℕ, ◌+◌, ◌-◌, ◌≤◌}
use mathlib.Core.Path.{◌≡◌}
use mathlib.Core.List.{List}
use lib.ListN.{length}
use Rattle.net.specs.Rows.{Rows}
use Rattle.net.specs.Lent.{rows_lent}
use Rattle.net.specs.Check.{Accepted}
use Rattle.net.specs.inner.Overwritten.{overwritten}
use Rattle.plan.specs.Plan.{links_bytes}
use Rattle.plan.proofs.writer.put_plan.Given as goal

-- of the links, put from the place `first` on, those below k have been put
pub record Begun (R : Rows) (links first : ℕ) (room₀ room : List ℕ) (at k : ℕ) : Type 0 where
  pub network : Accepted R
  pub all : links ≡ length R.low
  pub same_length : length room ≡ length room₀
  pub fits : at + length (links_bytes (links - k) R k) ≤ length room
  pub same_room : overwritten room at (links_bytes (links - k) R k) ≡ overwritten room₀ first (links_bytes links R 0)

abbrev pub invariant-loop-k : goal.invariant-loop-k
invariant-loop-k l =
    Begun (rows_lent l.network.rows) l.links l.initial.at l.initial.room l.room l.at l.k
