-- `offering_links` meets `offering_links`: the whole set is what the links from k on add to the set so far. The ends of a link are places of
-- the column.
use Prim.Native.Nat.{◌-◌}
use mathlib.Core.Path.{◌≡◌}
use lib.ListN.{length}
use Rattle.net.specs.Lent.{rows_lent}
use Rattle.paths.specs.inner.Rounds.{offering_from, offering_links}
use Rattle.paths.proofs.column.offering_links.Given as goal

abbrev pub invariant-loop-k : goal.invariant-loop-k
invariant-loop-k l =
    let R = rows_lent l.network.rows in
    offering_links R.low R.high l.out l.given ≡ offering_from (length R.low - l.k) R.low R.high l.out l.given l.k l.offering
