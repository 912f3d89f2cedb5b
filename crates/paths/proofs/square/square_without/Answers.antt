use Prim.Native.Nat.{◌<◌}
use mathlib.Core.Path.{◌≡◌, sym, ◌∙◌}
use mathlib.Core.List.{[]}
use native.Mathlib.Omega.{arith}
use borrow.Author.Count.{below_more}
use lib.ListN.{length, drop}
use Rattle.std.proofs.lemmas.List.{length-take-le, get_or-take, get_or_append_left}
use Rattle.net.specs.Limits.{most_nodes}
use Rattle.net.proofs.Accepted.{check_accepts, well_formed}
use Rattle.paths.specs.inner.Square.{column_for}
use Rattle.paths.proofs.ColumnEntry.{restarted_from_all}
use Rattle.paths.proofs.Counts.{few_nodes}
use Rattle.paths.proofs.Steps.{column_replaced, column_kept}
use Rattle.paths.proofs.square.square_without.Goals as goal

pub slice_bounds-column-items-end : goal.slice_bounds-column-items-end
slice_bounds-column-items-end c =
    let wide : length c.args.square ≡ most_nodes = c.well_formed.0.1.0.1 in
    sym (length-take-le _ c.args.square (omega (arith, few_nodes _ c.args.network.now.passed)))

pub loop-column-preserved : goal.loop-column-preserved
unfolding column_for
loop-column-preserved c =
    let at = c.loop-column in
    let d = at.column-index in
    let column = c.column_without.result in
    let wide : length c.args.square ≡ most_nodes = c.well_formed.0.1.0.1 in
    let long = length-take-le c.args.network.now.rows.nodes c.args.square (omega (arith, few_nodes _ c.args.network.now.passed)) in
    let node : d < c.args.network.now.rows.nodes = omega (arith, long, c.loop-column-test.true) in (
      λ e h. column_kept at.column-items d column e (λ q. omega arith) ∙ at.invariant.0 e (omega arith),
      λ best. below_more _ _ (λ e h. rw (column_kept at.column-items d column e (λ q. omega arith)) (at.invariant.1 best e h))
          (rw (column_replaced at.column-items d column (omega arith))
          (restarted_from_all _ (well_formed _ (check_accepts _ c.args.network.now.passed)) _ c.column_without.ensures node
          (rw (at.invariant.0 d (omega arith)) (best d node)))),
    )

pub returns : goal.returns
unfolding column_for
returns c =
    let at = c.loop-column in
    let n = c.args.network.now.rows.nodes in
    let square = c.args.square in
    let wide : length square ≡ most_nodes = c.well_formed.0.1.0.1 in
    let long = length-take-le n square (omega (arith, few_nodes _ c.args.network.now.passed)) in
    λ best d node.
    rw (get_or_append_left at.column-items (drop n square) [] d (omega arith))
    (at.invariant.1 (λ e h. rw (get_or-take n square e [] h) (best e h)) d (omega arith))
