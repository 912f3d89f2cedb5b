-- `column_without` settles what is left of the column without the costs that use a link of the set; where none does, the column stays.
use mathlib.Core.Path.{sym, ap, ◌∙◌}
use Rattle.net.proofs.Accepted.{check_accepts}
use Rattle.net.specs.Lent.{rows_lent}
use Rattle.paths.specs.inner.Rounds.{Revised, settled}
use Rattle.paths.proofs.BestColumn.{restarted_settled, restarted_still}
use Rattle.paths.proofs.column.column_without.Goals as goal

pub returns-in-Some : goal.returns-in-Some
returns-in-Some c =
    let begun = ap (λ (s : Revised). settled (rows_lent c.args.network.now.rows) c.args.out s.column) c.in-Some.ensures in
    rw (c.settle.ensures ∙ begun) (restarted_settled (check_accepts _ c.args.network.now.passed) c.args.out c.args.column c.well_formed.0.1.0.1)

pub returns-in-None : goal.returns-in-None
returns-in-None c =
    restarted_still (check_accepts _ c.args.network.now.passed) c.args.out c.args.column c.well_formed.0.1.0.1 (sym (ap (λ (s : Revised). s.changed) c.in-None.ensures))
