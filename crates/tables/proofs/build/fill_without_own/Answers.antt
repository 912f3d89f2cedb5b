use Prim.Native.Nat.{ℕ, ◌+◌, ◌*◌, ◌≤◌, ◌<◌}
use mathlib.Core.Path.{◌≡◌, refl}
use mathlib.Core.List.{List}
use native.Mathlib.Numerals.{add-one}
use native.Mathlib.Omega.{arith}
use lib.ListN.{length}
use Rattle.graph.specs.Path.{But}
use Rattle.net.specs.Rows.{Rows, network_of}
use Rattle.net.specs.inner.LinkSet.{with_link, no_links, Without}
use Rattle.net.specs.Check.{Accepted}
use Rattle.net.specs.declared.link_set.LinkSet.{LinkSet}
use Rattle.net.proofs.Accepted.{check_accepts, well_formed}
use Rattle.paths.specs.inner.Square.{BestSquare}
use Rattle.paths.specs.declared.cost.Cost.{Cost}
use Rattle.paths.proofs.ColumnEntry.{column_but}
use Rattle.tables.proofs.Detours.{kept_start}
use Rattle.tables.proofs.Filling.{filled_start}
use Rattle.tables.proofs.RowBytes.{own_row_from_low, own_row_from_high}
use Rattle.tables.proofs.Building.{next_row, row_room, filled_row}
use Rattle.tables.proofs.build.fill_without_own.Goals as goal

-- The square that the code restarts with one link out is the one without that link.
without_best : {R : Rows} → Accepted R → {k : ℕ} {none out : LinkSet} (without : List (List Cost)) → none ≡ no_links
    → out ≡ with_link none k → BestSquare (network_of R) (Without out) without → BestSquare (network_of R) (But k) without
without_best {R} network without is_empty is_only best d destination =
    column_but (network_of R) (well_formed R network) (rw (is_only, is_empty) at (best d destination))

pub loop-k-init : goal.loop-k-init
loop-k-init c =
    (filled_start _, rw c.none_kept-kept.ensures (kept_start _ (check_accepts _ c.args.network.now.passed).few_nodes c.args.all))

pub note_link-next-requires : goal.note_link-next-requires
note_link-next-requires c =
    let given = c.requires in
    record {
      row = omega arith;
      square = given.square;
      square_without =
          without_best (check_accepts _ c.args.network.now.passed) _ c.empty.ensures c.with_link-only.ensures (c.square_without-without.ensures given.square);
      keeps = c.loop-k.invariant.1;
    }

pub loop-k-preserved : goal.loop-k-preserved
loop-k-preserved c =
    let at = c.loop-k in
    let n = c.args.network.now.rows.nodes in
    let network = check_accepts _ c.args.network.now.passed in
    let without = c.square_without-without.result in
    let number : at.k < length c.args.network.now.rows.low.now = omega arith in
    let room : 2 * at.k * n + n + n ≤ length c.args.table.now =
    rw (next_row (2 * at.k) n) (row_room {rows = 2 * length c.args.network.now.rows.low.now} n (2 * at.k + 1) (omega arith) c.requires.room) in
    let best = without_best network _ c.empty.ensures c.with_link-only.ensures (c.square_without-without.ensures c.requires.square) in
    let first = filled_row at.invariant.0 refl (omega arith) _ c.costs_of.result
    (own_row_from_low _ network _ c.costs_of.result without number best c.costs_of.ensures c.end_at-x.ensures)
    c.fill_row.ensures in
    let second = filled_row first (next_row (2 * at.k) n) room _ c.costs_of-in-loop-k.result
    (own_row_from_high _ network _ c.costs_of-in-loop-k.result without number best c.costs_of-in-loop-k.ensures c.end_at-y.ensures)
    c.fill_row-in-loop-k.ensures in
    let rows : 2 * (at.k + 1) ≡ 2 * at.k + 1 + 1 = omega arith in
    (rw rows second, rw add-one c.note_link-next.ensures)
