use mathlib.Core.Path.{◌∙◌}
use native.Mathlib.Omega.{arith}
use borrow.Author.Count.{below_more}
use lib.ListN.{length-set}
use lib.Seq.{get_or-set_same, get_or-set_other}
use Rattle.paths.specs.inner.Cost.{no_cost}
use Rattle.paths.specs.inner.Column.{entry_at}
use Rattle.paths.specs.inner.Square.{column_for}
use Rattle.paths.proofs.Shape.{Shaped, array_shaped, read_at}
use Rattle.paths.proofs.square.costs_of.Goals as goal

pub loop-d-preserved : goal.loop-d-preserved
unfolding column_for entry_at
loop-d-preserved c =
    let at = c.loop-d in
    let shaped : Shaped c.args.square = search array_shaped in (
      length-set at.costs at.d _ ∙ at.invariant.0,
      below_more _ _ (λ e h. get_or-set_other at.costs at.d e _ no_cost (λ q. omega arith) ∙ at.invariant.1 e h)
          (get_or-set_same at.costs at.d _ no_cost (omega arith)
          ∙ read_at (column_for c.args.square at.d) c.args.i (omega (arith, shaped.row at.d (omega arith))) _),
    )
