-- The loop's invariant: every byte passed is accepted.
use mathlib.Core.Bool.{true}
use mathlib.Core.Path.{◌≡◌}
use Rattle.walk.specs.Lent.{all_below}
use Rattle.walk.proofs.Below.{byte_test}
use Rattle.walk.proofs.lent.row_passes.Given as goal

abbrev pub invariant-loop-d : goal.invariant-loop-d
invariant-loop-d l = all_below l.d (byte_test l.network.rows.low.now l.network.rows.high.now l.node.0 l.row) ≡ true
