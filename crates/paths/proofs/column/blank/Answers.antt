use Prim.Native.Nat.{◌≤◌, ◌<◌}
use mathlib.Core.Path.{◌≡◌, sym, ap, ◌∙◌}
use mathlib.Core.Logic.{inl, inr}
use native.Mathlib.Omega.{arith}
use lib.ListN.{length, set, drop}
use Rattle.std.proofs.lemmas.List.{set-get_or, length-take-le, take-append-drop, get_or_append_left, length-append}
use Rattle.net.specs.Limits.{most_nodes}
use Rattle.net.specs.inner.LinkSet.{meeting}
use Rattle.paths.specs.declared.cost.Cost.{Cost}
use Rattle.paths.proofs.Columns.{told_changed, told_still, blanked_kept}
use Rattle.paths.proofs.Steps.{stored_front, blank_begin, blank_done, blank_on}
use Rattle.paths.proofs.column.blank.Goals.{then-meets, else-meets}
use Rattle.paths.proofs.column.blank.Goals as goal

pub loop-cost-init : goal.loop-cost-init
loop-cost-init c = rw (take-append-drop c.args.n c.args.column) (blank_begin c.args.n c.args.out c.args.column)

pub loop-cost-preserved : goal.loop-cost-preserved
loop-cost-preserved c =
    let at = c.loop-cost in
    let rest = drop c.args.n c.args.column in
    let wide : length c.args.column ≡ most_nodes = c.well_formed.0.1.0.1 in
    let long = length-take-le c.args.n c.args.column (omega arith) in
    let place : at.cost-index < length at.cost-items = omega (arith, at.auto.cost-items, c.loop-cost-test.true) in
    let step = stored_front {items = at.cost-items} {changed = at.changed} rest place
    (elim c.if-meets.branch [
      | then-meets w ↦ inl (w.if-meets.true, w.cost-items-is ∙ ap (set at.cost-items at.cost-index) w.none.ensures, w.changed-is)
      | else-meets w ↦ inr (w.if-meets.false, w.cost-items-is ∙ set-get_or at.cost-items at.cost-index _, w.changed-is)
    ]) in
    at.invariant
    ∙ blank_on _ _ at.cost-index _ (omega (arith, long)) (simp length-append (omega arith)) _
    (c.meets.ensures ∙ ap (λ (cost : Cost). meeting cost.links c.args.out) (sym (get_or_append_left at.cost-items rest _ at.cost-index place))) step

pub returns-then-not-changed : goal.returns-then-not-changed
returns-then-not-changed c =
    let wide : length c.args.column ≡ most_nodes = c.well_formed.0.1.0.1 in
    let long = length-take-le c.args.n c.args.column (omega arith) in
    let done : c.args.n ≤ c.loop-cost.cost-index = omega (arith, long, c.loop-cost-test.false) in
    told_still (blanked_kept _ _ _) (c.loop-cost.invariant ∙ blank_done _ _ c.loop-cost.cost-index _ done) c.if-not-changed.true

pub returns : goal.returns
returns c =
    let wide : length c.args.column ≡ most_nodes = c.well_formed.0.1.0.1 in
    let long = length-take-le c.args.n c.args.column (omega arith) in
    let done : c.args.n ≤ c.loop-cost.cost-index = omega (arith, long, c.loop-cost-test.false) in
    told_changed (blanked_kept _ _ _) (c.loop-cost.invariant ∙ blank_done _ _ c.loop-cost.cost-index _ done) c.if-not-changed.false
