use mathlib.Core.Path.{◌≡◌, sym, ◌∙◌}
use mathlib.Core.Logic.{inl, inr}
use native.Mathlib.Omega.{arith}
use lib.ListN.{length}
use Rattle.net.specs.Limits.{most_nodes}
use Rattle.paths.proofs.Counts.{low_place, high_place}
use Rattle.paths.proofs.Steps.{offering_begin, offering_done, offering_on}
use Rattle.paths.proofs.column.offering_links.Goals.{then-makes_offers, else-makes_offers}
use Rattle.paths.proofs.column.offering_links.Goals as goal

pub loop-k-init : goal.loop-k-init
loop-k-init c = rw c.empty-offering.ensures (offering_begin _ _ _ _)

pub loop-k-preserved : goal.loop-k-preserved
loop-k-preserved c =
    let at = c.loop-k in
    let h = c.loop-k-test.true in
    let low_place = low_place _ _ _ _ c.args.network.now.passed _ h in
    let high_place = high_place _ _ _ _ c.args.network.now.passed _ h in
    let long : length c.args.given ≡ most_nodes = c.well_formed.0.1.0.1 in
    at.invariant
    ∙ offering_on _ _ _ _ _ at.k _ h (omega arith) (omega arith) _ c.makes_offers.ensures
    (elim c.if-makes_offers.branch [
      | then-makes_offers w ↦ inl (w.if-makes_offers.true, w.offering-is ∙ w.with_link-offering.ensures)
      | else-makes_offers w ↦ inr (w.if-makes_offers.false, w.offering-is)
    ])

pub returns : goal.returns
returns c = let at = c.loop-k in sym (at.invariant ∙ offering_done _ _ _ _ _ at.k _ c.loop-k-test.false)
