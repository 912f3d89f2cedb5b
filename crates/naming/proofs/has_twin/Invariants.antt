-- `has_twin` asks link by link: no link below the index is a twin, and the first that is one is the answer.
use Prim.Native.Nat.{◌≤◌}
use mathlib.Core.Bool.{false}
use mathlib.Core.Path.{◌≡◌}
use lib.ListN.{length}
use Rattle.naming.specs.Name.{is_twin, any_below}
use Rattle.naming.proofs.has_twin.Given as goal

abbrev pub invariant-loop-k : goal.invariant-loop-k
invariant-loop-k l = (l.k ≤ length l.network.low.now) × (any_below l.k (is_twin l.network.low.now l.network.high.now l.link.0) ≡ false)
