use mathlib.Core.Path.{◌∙◌}
use native.Mathlib.Omega.{arith}
use borrow.Author.Count.{below_more}
use lib.ListN.{length-set}
use lib.Seq.{get_or-set_same, get_or-set_other}
use Rattle.paths.specs.inner.Cost.{no_cost}
use Rattle.paths.specs.inner.Column.{entry_at}
use Rattle.tables.proofs.Reading.{forward_read}
use Rattle.tables.proofs.build.forward_costs.Goals as goal

pub loop-d-preserved : goal.loop-d-preserved
unfolding entry_at
loop-d-preserved c =
    let at = c.loop-d in (
      length-set at.costs at.d c.forward_cost.result ∙ at.invariant.0,
      below_more _ _
          (λ e h. get_or-set_other at.costs at.d e _ no_cost (λ q. omega arith) ∙ at.invariant.1 e h)
          (get_or-set_same at.costs at.d _ no_cost (omega arith)
          ∙ forward_read _ at.d c.args.all c.args.kept (omega arith) (omega arith) _ _ c.forward_cost.ensures),
    )
