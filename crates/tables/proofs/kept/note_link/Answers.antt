use mathlib.Core.Path.{◌∙◌}
use mathlib.Core.List.{[]}
use native.Mathlib.Omega.{arith}
use borrow.Author.Count.{below_more}
use lib.ListN.{length-set}
use lib.Seq.{get_or-set_same, get_or-set_other}
use Rattle.paths.specs.inner.Square.{column_for}
use Rattle.tables.specs.inner.Detours.{kept_for}
use Rattle.paths.proofs.Counts.{few_nodes}
use Rattle.tables.proofs.kept.note_link.Goals as goal

pub note_column-requires : goal.note_column-requires
unfolding column_for kept_for
note_column-requires c =
    let at = c.loop-d in
    let given = c.requires in
    let destination = c.loop-d-test.true in
    record {
      row = given.row;
      column = given.square at.d destination;
      column_without = given.square_without at.d destination;
      keeps = rw (at.invariant.1 at.d (omega arith)) (given.keeps at.d destination);
    }

pub loop-d-preserved : goal.loop-d-preserved
unfolding column_for kept_for
loop-d-preserved c =
    let at = c.loop-d in
    let column = c.note_column.result in (
      length-set at.next at.d column ∙ at.invariant.0,
      λ e h. get_or-set_other at.next at.d e column [] (λ q. omega arith) ∙ at.invariant.1 e (omega arith),
      below_more _ _ (λ e h. rw (get_or-set_other at.next at.d e column [] (λ q. omega arith)) (at.invariant.2 e h))
          (rw (get_or-set_same at.next at.d column [] (omega (arith, few_nodes _ c.args.network.now.passed))) c.note_column.ensures),
    )
