-- `plan_length` adds up the lengths. The invariant: the plan is as long as the count and the links from k on. A plan is short, so no sum
-- overflows.
use Prim.Native.Nat.{ℕ, ◌+◌, ◌-◌}
use mathlib.Core.Path.{◌≡◌}
use lib.ListN.{length}
use Rattle.net.specs.Rows.{Rows}
use Rattle.net.specs.Lent.{rows_lent}
use Rattle.net.specs.Check.{Accepted}
use Rattle.plan.specs.Plan.{links_bytes, plan_of}
use Rattle.plan.proofs.writer.plan_length.Given as goal

-- the links below k have been counted
pub record Counted (R : Rows) (links count k : ℕ) : Type 0 where
  pub network : Accepted R
  pub all : links ≡ length R.low
  pub sum : length (plan_of R) ≡ count + length (links_bytes (links - k) R k)

abbrev pub invariant-loop-k : goal.invariant-loop-k
invariant-loop-k l = Counted (rows_lent l.network.rows) l.links l.count l.k
