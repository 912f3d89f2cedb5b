-- `check_network` meets `check_network`: the tests before the loop in the order of the definition, and the loop against `links_from`,
-- with the invariant that the whole answer is the answer from link k on, and that `before` is the link before it.
use Prim.Native.Nat.{ℕ, ◌≤◌, ◌-◌}
use mathlib.Core.Path.{◌≡◌}
use lib.ListN.{length}
use Rattle.net.specs.Rows.{Rows}
use Rattle.net.specs.Lent.{rows_lent}
use Rattle.net.specs.Check.{span_before, check_network, links_from}
use Rattle.net.specs.declared.check.Span.{Span}
use Rattle.net.proofs.check.check_network.Given as goal

-- the links below k have passed, the last of them is `before`
pub record From (R : Rows) (links : ℕ) (before : Span) (k : ℕ) : Type 0 where
  pub all : links ≡ length R.low
  pub passed : k ≤ links
  pub weights : length R.weight ≡ links
  pub last : before ≡ span_before R k
  pub rest : check_network R ≡ links_from (links - k) R k

abbrev pub invariant-loop-k : goal.invariant-loop-k
invariant-loop-k l =
    From (rows_lent l.network) l.links l.before l.k
