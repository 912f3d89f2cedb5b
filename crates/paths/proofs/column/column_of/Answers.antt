-- `column_of` settles the column in which only the destination is known.
use Rattle.net.proofs.Accepted.{check_accepts}
use Rattle.paths.proofs.BestColumn.{start_best}
use Rattle.paths.proofs.column.column_of.Goals as goal

pub returns : goal.returns
returns c =
    rw (c.settle.ensures, c.empty.ensures, c.start.ensures)
    (start_best (check_accepts _ c.args.network.now.passed) c.requires)
