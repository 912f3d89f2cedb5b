-- `start` is `start_column` as it stands.
use lib.ListN.{set, replicate}
use Rattle.net.specs.Limits.{most_nodes}
use Rattle.paths.specs.inner.Rounds.{start_column}
use Rattle.paths.proofs.column.start.Goals as goal

pub returns : goal.returns
unfolding start_column
returns c = λ t. set (replicate most_nodes (c.none-unknown.ensures t)) c.args.destination.0 (c.here.ensures t)
