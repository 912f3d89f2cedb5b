-- Where a packet stands: what the look-up's answer tells there. An answer that leads on names an interface of the network that leaves the
-- node and enters the answer's node; it has its row in both tables; and the bytes read in them are the entries of the lent tables.
use Rattle.std.specs.Prelude.{Option, Some, None}
use Prim.Native.Nat.{ℕ, ◌+◌, ◌*◌, ◌^◌, ◌<◌, ◌≤◌}
use mathlib.Core.Path.{◌≡◌, sym, ◌∙◌}
use mathlib.Core.Logic.{◌≢◌}
use native.Mathlib.Omega.{arith}
use lib.ListN.{length, get_or}
use mir.Syntax.{w8, w64}
use mir.Val.{Fits}
use Rattle.graph.specs.Network.{Network, tail, head}
use Rattle.graph.specs.Entries.{onward}
use Rattle.graph.specs.Walk.{Tables}
use Rattle.graph.proofs.Moves.{Leadless}
use Rattle.net.specs.Limits.{most_nodes}
use Rattle.net.specs.Rows.{Rows, network_of}
use Rattle.net.specs.declared.interface.Interface.{Interface}
use Rattle.net.specs.declared.interface.Node.{Node}
use Rattle.net.proofs.Rows.{head_of_lem}
use Rattle.tables.specs.Lent.{LentTables}
use Rattle.walk.specs.Lent.{hop_at, tables_for}
use Rattle.walk.specs.inner.Reading.{found_by, Ready}
use Rattle.walk.proofs.Below.{row_within}
use Rattle.walk.proofs.Hops.{hop_below, hop_leaves, next_onward, next_node, absent_leadless, head_below}

-- a hop more and a place in a row can be counted
pub hop_fits : (hops left room : ℕ) → hops + left < room → left ≢ 0 → room < 2 ^ 64 → Fits w64 (hops + 1)
hop_fits hops left room h some most = record { fits = omega arith }

pub row_fits : (f n room : ℕ) → f * n + n ≤ room → room < 2 ^ 64 → Fits w64 (f * n)
row_fits f n room h most = record { fits = omega arith }

pub place_fits : (f n d room : ℕ) → f * n + n ≤ room → d < n → room < 2 ^ 64 → Fits w64 (f * n + d)
place_fits f n d room h within most = record { fits = omega arith }

pub place_within : (f n d room : ℕ) → f * n + n ≤ room → d < n → f * n + d < room
place_within f n d room h within = omega arith

module _ {R : Rows} {T : LentTables} (ready : Ready R T) where
  open R use {nodes as n, low, high}
  open T use {routing, forwarding, backwarding}

  abbrev N : Network
  N = network_of R

  abbrev entries : ℕ → Tables
  entries d = tables_for R T d

  pub few_nodes : n ≤ most_nodes
  few_nodes = ready.network.few_nodes

  -- a node has its row in the routing table, and its number can be stored as a byte
  module _ (i : ℕ) (below : i < n) where
    pub routing_row : i * n + n ≤ length routing
    routing_row = row_within n n i (length routing) below ready.long.for_routing

    pub node_fits : Fits w8 i
    node_fits = record { fits = omega (arith, below, few_nodes) }

  -- an interface has its row in both tables, and enters a node
  module _ (f : ℕ) (below : f < 2 * length low) where
    pub forwarding_row : f * n + n ≤ length forwarding
    forwarding_row = row_within n (2 * length low) f (length forwarding) below ready.long.for_forwarding

    pub backwarding_row : f * n + n ≤ length backwarding
    backwarding_row = row_within n (2 * length low) f (length backwarding) below ready.long.for_backwarding

    pub enters_node : head N f < n
    enters_node = head_below R ready.network f below

  -- the entries for d, read as bytes
  module _ (d f i : ℕ) where
    pub forwarding_read : head N f ≡ i → (entries d).forwarding f ≡ hop_at low high i (get_or forwarding (f * n + d) 0)
    unfolding tables_for
    forwarding_read e = rw e

    pub backwarding_read : tail N f ≡ i → (entries d).backwarding f ≡ hop_at low high i (get_or backwarding (f * n + d) 0)
    unfolding tables_for
    backwarding_read e = rw e

  -- what an answer of the look-up tells that leads on from node i, to node v over interface f
  pub record Leads (i byte : ℕ) (v : Node) (f : Interface) : Type 0 where
    pub entry : hop_at low high i byte ≡ onward f.0
    pub below : f.0 < 2 * length low
    pub leaves : tail N f.0 ≡ i
    pub enters : v.0 ≡ head N f.0
    pub node : v.0 < n
    pub row : f.0 * n + n ≤ length forwarding

  -- the look-up of a byte at node i answered r
  module _ (i byte : ℕ) {r : Option (Node × Interface)} (answered : r ≡ found_by low high (hop_at low high i byte)) where
    pub absent : r ≡ None → Leadless (hop_at low high i byte)
    absent e = absent_leadless low high (hop_at low high i byte) (sym e ∙ answered)

    pub leads : (v : Node) (f : Interface) → r ≡ Some (v, f) → Leads i byte v f
    leads v f next =
        let entry = next_onward low high (hop_at low high i byte) (sym next ∙ answered) in
        let below = hop_below R i byte entry in
        let enters = next_node low high (hop_at low high i byte) (sym next ∙ answered) ∙ sym (head_of_lem R f.0) in
        record {
          entry = entry;
          below = below;
          leaves = hop_leaves R i byte entry;
          enters = enters;
          node = omega (arith, enters, enters_node f.0 below);
          row = forwarding_row f.0 below;
        }

    -- where it leads on: the next node can be stored as a byte, and the entry that stands there is in the forwarding table
    module _ {v : Node} {f : Interface} (next : r ≡ Some (v, f)) where
      pub next_node_below : v.0 < n
      next_node_below = (leads v f next).node

      pub next_fits : Fits w8 v.0
      next_fits = node_fits v.0 next_node_below

      pub next_place_within : {d : ℕ} → d < n → f.0 * n + d < length forwarding
      next_place_within {d} within = place_within f.0 n d (length forwarding) (leads v f next).row within

      module _ (table : length forwarding < 2 ^ 64) where
        pub next_row_fits : Fits w64 (f.0 * n)
        next_row_fits = row_fits f.0 n (length forwarding) (leads v f next).row table

        pub next_place_fits : {d : ℕ} → d < n → Fits w64 (f.0 * n + d)
        next_place_fits {d} within = place_fits f.0 n d (length forwarding) (leads v f next).row within table
