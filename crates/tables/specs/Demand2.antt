-- Demand 2: every byte of the built tables is the entry that the papers define, and every set of key links is that of the defined key
-- links. Of any network in document 01's limits and any lent tables that are long enough; nothing else is asked for.
use Rattle.std.specs.Prelude.{ℕ, ◌+◌, ◌*◌, ◌<◌, ◌≡◌, length, get_or}
use Rattle.graph.specs.Set.{SetOf}
use Rattle.graph.specs.Entries.{Hop, RoutingEntry, ForwardingEntry, BackwardingEntry, KeyLink}
use Rattle.net.specs.Refusals.{accepted}
use Rattle.net.specs.Entry.{byte_of}
use Rattle.net.specs.Rows.{Rows, network_of}
use Rattle.net.specs.Verdict.{Verdict}
use Rattle.tables.specs.Lent.{LentTables}
use Rattle.tables.specs.Key.{KeyLinks, KeyLinksAnswer}

-- the byte of the one entry that a definition allows
pub record TheEntry (Defined : Hop → Type 0) (byte : ℕ) : Type 0 where
  pub hop : Hop
  pub defined : Defined hop
  pub only : (other : Hop) → Defined other → other ≡ hop
  pub is : byte ≡ byte_of hop

-- r is the builder's answer on the network R, and T are the tables as it left them
pub record Demand2 (R : Rows) (r : Verdict) (T : LentTables) : Type 0 where
  pub number : r.number ≡ accepted
  pub routing_entries : (i d : ℕ) → i < R.nodes → d < R.nodes
      → TheEntry (RoutingEntry (network_of R) d i) (get_or T.routing (i * R.nodes + d) 0)
  pub forwarding_entries : (h d : ℕ) → h < 2 * length R.low → d < R.nodes
      → TheEntry (ForwardingEntry (network_of R) d h) (get_or T.forwarding (h * R.nodes + d) 0)
  pub backwarding_entries : (h d : ℕ) → h < 2 * length R.low → d < R.nodes
      → TheEntry (BackwardingEntry (network_of R) d h) (get_or T.backwarding (h * R.nodes + d) 0)
  pub key_links : (h d : ℕ) (keys : KeyLinks) → h < 2 * length R.low → d < R.nodes → KeyLinksAnswer R h d keys
      → (keys.number ≡ accepted) × SetOf (length R.low) (KeyLink (network_of R) d h) keys.links
