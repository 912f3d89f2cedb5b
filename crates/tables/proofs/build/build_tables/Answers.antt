-- `build_tables` refuses as `build_verdict` does, and then changes nothing. Else the network is accepted and the tables are long enough,
-- so that each table is filled as its own functions promise: the backwarding table first as if no interface had key links, then without
-- them.
use Prim.Native.Nat.{ℕ, ◌*◌, ◌≤◌}
use mathlib.Core.Path.{◌≡◌, refl}
use mathlib.Core.List.{List}
use lib.ListN.{length}
use Rattle.graph.specs.Path.{All}
use Rattle.net.specs.Rows.{Rows, network_of}
use Rattle.net.specs.Lent.{rows_lent}
use Rattle.net.specs.declared.lent_rows.LentRows.{LentRows}
use Rattle.net.specs.Refusals.{accepted}
use Rattle.net.specs.Verdict.{Verdict}
use Rattle.paths.specs.inner.Square.{BestSquare}
use Rattle.paths.specs.declared.cost.Cost.{Cost}
use Rattle.tables.specs.Lent.{LentTables}
use Rattle.tables.specs.Build.{build_verdict}
use Rattle.tables.specs.inner.Given.{Filling}
use Rattle.tables.proofs.BuildVerdicts.{build_room}
use Rattle.tables.proofs.build.build_tables.Goals as goal

module _ (T : LentTables) {network checked : LentRows} (same : checked ≡ network) {v : Verdict}
    (is : v ≡ build_verdict (rows_lent network) T) (free : v.number ≡ accepted) where
  abbrev R : Rows
  R = rows_lent checked

  -- the checked network has the rows that were judged
  judged : v ≡ build_verdict R T
  judged = rw same is

  module _ {all : List (List Cost)} (square : BestSquare (network_of R) All all) where
    -- a table with enough room can be filled once the checks have passed
    with_room : (rows : ℕ) (table : List ℕ) → rows * R.nodes ≤ length table → Filling R rows table all
    with_room rows table room = record { room = room; square = square }

    -- the routing table has enough for a row of each node
    for_routing : Filling R R.nodes T.routing all
    for_routing = with_room R.nodes T.routing (build_room R T judged free).for_routing

    -- the forwarding table for one of each interface
    for_forwarding : Filling R (2 * length R.low) T.forwarding all
    for_forwarding = with_room (2 * length R.low) T.forwarding (build_room R T judged free).for_forwarding

    -- and so has the backwarding table
    for_backwarding : Filling R (2 * length R.low) T.backwarding all
    for_backwarding = with_room (2 * length R.low) T.backwarding (build_room R T judged free).for_backwarding

pub fill_routing-requires : goal.fill_routing-requires
fill_routing-requires c = for_routing _ c.in_ok-network.ensures.same_rows c.in_ok-network.ensures.refusal refl c.square_of-all.ensures

pub fill_without_own-kept-requires : goal.fill_without_own-kept-requires
fill_without_own-kept-requires c =
    for_backwarding _ c.in_ok-network.ensures.same_rows c.in_ok-network.ensures.refusal refl c.square_of-all.ensures

pub leave_out_keys-requires : goal.leave_out_keys-requires
leave_out_keys-requires c =
    let own = c.fill_without_own-kept.ensures in
    let filling = for_backwarding _ c.in_ok-network.ensures.same_rows c.in_ok-network.ensures.refusal refl c.square_of-all.ensures in
    record {
      given = record {
        filling = record { room = rw own.filled.same_length filling.room; square = filling.square };
        keeps = own.square_kept;
      };
      own = own.filled.bytes;
    }

pub fill_forwarding-requires : goal.fill_forwarding-requires
fill_forwarding-requires c =
    record {
      filling = for_forwarding _ c.in_ok-network.ensures.same_rows c.in_ok-network.ensures.refusal refl c.square_of-all.ensures;
      keeps = c.fill_without_own-kept.ensures.square_kept;
    }
