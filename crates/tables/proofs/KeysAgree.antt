-- The entry `key_links` and the builder agree on the key links: the set that the entry answers for an interface and a node is the set
-- that the builder works with, once it has tried all links. Both are the set of the same links, and one property has one set.
use Prim.Native.Nat.{ℕ, ◌*◌, ◌<◌}
use mathlib.Core.Path.{◌≡◌}
use mathlib.Core.List.{List}
use lib.ListN.{length}
use Rattle.graph.specs.Network.{head}
use Rattle.graph.specs.Path.{All}
use Rattle.graph.proofs.Interfaces.{head_node}
use Rattle.graph.proofs.Sets.{set_one}
use Rattle.net.specs.Rows.{Rows, network_of}
use Rattle.net.specs.Check.{Accepted}
use Rattle.net.specs.inner.LinkSet.{value}
use Rattle.net.proofs.Accepted.{well_formed}
use Rattle.net.proofs.Rows.{interface_present}
use Rattle.paths.specs.inner.Square.{cell, BestSquare}
use Rattle.paths.specs.declared.cost.Cost.{Cost}
use Rattle.tables.specs.Key.{KeyLinks, KeyLinksAnswer}
use Rattle.tables.specs.declared.kept.Kept.{Kept}
use Rattle.tables.specs.inner.Detours.{keys_for, kept_for, kept_at, SquareKept}
use Rattle.tables.proofs.KeptKeys.{kept_keys}
use Rattle.tables.proofs.Demand2.{key_links_found}

pub keys_agree : (R : Rows) → Accepted R → {h d : ℕ} {keys : KeyLinks} → h < 2 * length R.low → d < R.nodes
    → KeyLinksAnswer R h d keys → (all : List (List Cost)) → BestSquare (network_of R) All all
    → (kept : List (List Kept)) → SquareKept (network_of R) (length R.low) all kept
    → keys.links ≡ value (keys_for h (cell all (head (network_of R) h) d) (kept_at (kept_for kept d) (head (network_of R) h)))
keys_agree R A {h} {d} interface destination answer all whole kept keeps =
    let N = network_of R in
    let W = well_formed R A in
    let node = head_node N W h (interface_present R h interface) in
    set_one
    (key_links_found R A interface destination answer).1
    (kept_keys N W h _ _ ((whole d destination).shows (head N h) node) (keeps d destination (head N h) node))
