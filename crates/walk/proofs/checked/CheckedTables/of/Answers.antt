-- What the check has taken has the facts of the types: the network is accepted, and the tables are as long as their rows.
use mathlib.Core.Path.{refl, ap}
use Rattle.net.proofs.Accepted.{accepts_check}
use Rattle.net.specs.Verdict.{Verdict}
use Rattle.tables.proofs.Lengths.{long_tables}
use Rattle.walk.proofs.Verdicts.{lent_network, lent_long}
use Rattle.walk.proofs.checked.CheckedTables.of.Goals as goal

pub invariant_of-result : goal.invariant_of-result
invariant_of-result c = record { passed = ap (λ (v : Verdict). v.number) (accepts_check _ (lent_network _ _ _ c.in_ok-check_lent.ensures refl)) }

pub invariant_of-result-2 : goal.invariant_of-result-2
invariant_of-result-2 c = record { long = long_tables (lent_long _ _ _ c.in_ok-check_lent.ensures refl) }
