-- `read_links` meets `links_read`: the loop's invariant is that the whole answer is the answer from link k on, with the rows as they
-- are filled so far.
use Prim.Native.Nat.{ℕ, ◌-◌, ◌≤◌}
use mathlib.Core.Path.{◌≡◌}
use mathlib.Core.List.{List}
use Rattle.net.specs.Rows.{Rows}
use Rattle.net.specs.Check.{origin}
use Rattle.net.specs.declared.check.Span.{Span}
use Rattle.net.specs.declared.lent_rows.Network.{Network}
use Rattle.plan.specs.Reader.{no_links, links_read}
use Rattle.plan.proofs.reader.read_links.Given as goal

-- the rows of an answer, with a place for each link there may be
abbrev pub rows_of : Network → Rows
rows_of N = record { nodes = N.nodes; low = N.low; high = N.high; weight = N.weight }

-- the links below k have been read, the last of them is `before`
pub record From (s : List ℕ) (n m first : ℕ) (before : Span) (at k : ℕ) (network : Network) : Type 0 where
  pub nodes : network.nodes ≡ n
  pub links : network.links ≡ m
  pub within : k ≤ m
  pub rest : links_read m s m first origin 0 (no_links n) ≡ links_read (m - k) s m at before k (rows_of network)

abbrev pub invariant-links : goal.invariant-links
invariant-links l = From l.s l.n l.m l.first l.before l.at l.k l.network

abbrev pub decreases-links : goal.decreases-links
decreases-links l = l.m - l.k
