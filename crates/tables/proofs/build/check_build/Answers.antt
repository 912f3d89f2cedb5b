-- `check_build` makes the tests of `build_verdict` in their order. After the check of the network its counts are within the limits.
use mathlib.Core.Path.{refl}
use Rattle.tables.proofs.BuildVerdicts.{network_within}
use Rattle.tables.proofs.build.check_build.Goals as goal

pub tables_short-requires : goal.tables_short-requires
tables_short-requires c = network_within _ c.in_ok-checked.ensures.refusal refl
