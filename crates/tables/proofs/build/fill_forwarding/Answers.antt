use Prim.Native.Nat.{ℕ, ◌+◌, ◌*◌, ◌≤◌, ◌<◌}
use mathlib.Core.Path.{◌≡◌, refl, sym, ap₂, ◌∙◌}
use mathlib.Core.List.{List}
use native.Mathlib.Omega.{arith}
use lib.ListN.{length}
use Rattle.graph.specs.Network.{link, head}
use Rattle.graph.proofs.Interfaces.{head_node}
use Rattle.net.specs.Check.{Accepted}
use Rattle.net.specs.Rows.{Rows, Present, network_of, head_of}
use Rattle.net.specs.Limits.{most_nodes}
use Rattle.net.proofs.Accepted.{check_accepts, well_formed}
use Rattle.net.proofs.Rows.{interface_present, head_of_lem}
use Rattle.paths.specs.inner.Square.{column_for}
use Rattle.paths.specs.declared.cost.Cost.{Cost}
use Rattle.paths.proofs.Turning.{turned_costs}
use Rattle.tables.specs.inner.Detours.{forward_cost, kept_for, kept_at, nothing_kept}
use Rattle.tables.specs.inner.Given.{FillingByKept}
use Rattle.tables.specs.declared.kept.Kept.{Kept}
use Rattle.tables.proofs.RowBytes.{forwarding_row}
use Rattle.tables.proofs.Building.{row_room, filled_row}
use Rattle.tables.proofs.build.fill_forwarding.Goals as goal

module _ {R : Rows} {table : List ℕ} {all : List (List Cost)} {kept : List (List Kept)} (A : Accepted R) (G : FillingByKept R table all kept)
    (h : ℕ) (interface : h < 2 * length R.low) where
  open R use {nodes as n, low, high}

  -- the row of interface h ends within the table
  row_end : h * n + n ≤ length table
  row_end = row_room n h interface G.filling.room

  -- its link is there
  present : Present R (link h)
  present = interface_present R h interface

  module _ {i : ℕ} (is : i ≡ head_of low high h) where
    -- the head of interface h is the node that the code names i
    enters : head (network_of R) h ≡ i
    enters = head_of_lem R h ∙ sym is

    -- a node of the network
    entered : i < n
    entered = rw enters at (head_node (network_of R) (well_formed R A) h present)

    -- and one of the square's rows
    entered_place : i < most_nodes
    entered_place = omega (arith, entered, A.few_nodes)

pub offset_bounds-rows-i : goal.offset_bounds-rows-i
offset_bounds-rows-i c = omega (arith, entered_place (check_accepts _ c.args.network.now.passed) c.requires c.loop-h.h (omega arith) c.head_of-i.ensures)

pub bounds-rows-i : goal.bounds-rows-i
bounds-rows-i c = omega (arith, entered_place (check_accepts _ c.args.network.now.passed) c.requires c.loop-h.h (omega arith) c.head_of-i.ensures)

pub offset_bounds-found-i : goal.offset_bounds-found-i
offset_bounds-found-i c = omega (arith, entered_place (check_accepts _ c.args.network.now.passed) c.requires c.loop-h.h (omega arith) c.head_of-i.ensures)

pub bounds-found-i : goal.bounds-found-i
bounds-found-i c = omega (arith, entered_place (check_accepts _ c.args.network.now.passed) c.requires c.loop-h.h (omega arith) c.head_of-i.ensures)

pub slice_bounds-fill_row-end : goal.slice_bounds-fill_row-end
slice_bounds-fill_row-end c = omega (arith, row_end (check_accepts _ c.args.network.now.passed) c.requires c.loop-h.h (omega arith))

pub loop-h-preserved : goal.loop-h-preserved
unfolding column_for kept_for kept_at
loop-h-preserved c =
    let given = c.requires in
    let network = check_accepts _ c.args.network.now.passed in
    let at = c.loop-h in
    let interface : at.h < 2 * length c.args.network.now.rows.low.now = omega arith in
    let i = c.head_of-i.result.0 in
    let is = c.head_of-i.ensures in
    let node = entered network given at.h interface is in
    filled_row at.invariant refl (row_end network given at.h interface) _ c.forward_costs-costs.result
    (forwarding_row _ network _ c.forward_costs-costs.result c.args.all c.args.kept
    given.filling.square given.keeps at.h (present network given at.h interface) (enters network given at.h interface is)
    (λ d destination.
    c.forward_costs-costs.ensures d destination
    ∙ ap₂ (forward_cost at.h) (turned_costs _ _ _ c.turned-rows.ensures i d node destination)
    (c.turned-found.ensures nothing_kept i d node destination)))
    c.fill_row.ensures
