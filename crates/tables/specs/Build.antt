-- What `build_tables` promises: demand 2 for the three tables. "Refused answers carry 0 in every part not named here, and no lent byte
-- changes."
use Rattle.std.specs.Prelude.{◌*◌, ◌≡◌, ◌≢◌, length}
use Rattle.graph.specs.Network.{Network}
use Rattle.net.specs.Refusals.{accepted, table_length}
use Rattle.net.specs.Rows.{Rows, network_of}
use Rattle.net.specs.Check.{check_network, or_else, refused_if}
use Rattle.net.specs.Verdict.{Verdict}
use Rattle.tables.specs.Lent.{LentTables, tables_short}
use Rattle.tables.specs.Entry.{Filled, RoutingByte, ForwardingByte, BackwardingByte}

-- the network's refusals, then 14, "a lent table, to be filled or to be read, is shorter than its rows"
unfoldable pub build_verdict : Rows → LentTables → Verdict
build_verdict R T = or_else (check_network R) (refused_if (tables_short R.nodes (length R.low) T) table_length)

-- every byte of the three tables is the entry that the papers define
pub record Built (N : Network) (before after : LentTables) : Type 0 where
  pub routes : Filled N.nodes N.nodes (RoutingByte N) before.routing after.routing
  pub forwards : Filled N.nodes (2 * N.links) (ForwardingByte N) before.forwarding after.forwarding
  pub backwards : Filled N.nodes (2 * N.links) (BackwardingByte N) before.backwarding after.backwarding

-- r is the answer on the network R, the tables being `before` at entry and `after` at exit
pub record BuildAnswer (R : Rows) (before : LentTables) (r : Verdict) (after : LentTables) : Type 0 where
  pub verdict : r ≡ build_verdict R before
  pub refused : r.number ≢ accepted → after ≡ before
  pub built : r.number ≡ accepted → Built (network_of R) before after
