use mathlib.Core.Path.{◌≡◌, refl, ◌∙◌}
use native.Mathlib.Omega.{arith}
use borrow.Author.Count.{below_more}
use lib.ListN.{length-set}
use Rattle.paths.proofs.Counts.{few_nodes}
use Rattle.paths.proofs.Steps.{column_first, column_replaced, column_kept}
use Rattle.paths.proofs.square.square_of.Goals as goal

pub loop-d-init : goal.loop-d-init
loop-d-init c = (
  refl,
  λ e h.
      let e-is : e ≡ 0 = omega arith in
      rw (e-is, column_first c.column_of-first.result) c.column_of-first.ensures,
)

pub loop-d-preserved : goal.loop-d-preserved
loop-d-preserved c =
    let at = c.loop-d in
    let column = c.column_of.result in (
      length-set at.square at.d column ∙ at.invariant.0,
      below_more _ _ (λ e h. rw (column_kept at.square at.d column e (λ q. omega arith)) (at.invariant.1 e h))
          (rw (column_replaced at.square at.d column (omega (arith, few_nodes _ c.args.network.now.passed))) c.column_of.ensures),
    )
