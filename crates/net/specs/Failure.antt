-- "A failure is either none or one link by number": which links it makes fail, and its refusal.
use Rattle.std.specs.Prelude.{ℕ, Bool, false, eqb, leb}
use Rattle.net.specs.Choice.{pick}
use Rattle.net.specs.Refusals.{accepted, failed_link}
use Rattle.net.specs.declared.failure.Failure.{Failure}
use Rattle.net.specs.declared.failure.Failure.TheVariants.{Nothing, One}

unfoldable pub fails : Failure → ℕ → Bool
fails Nothing k = false
fails (One l) k = eqb k l.0

-- 12, "failed link not below the link count", or 0
unfoldable pub failure_number : ℕ → Failure → ℕ
failure_number links Nothing = accepted
failure_number links (One l) = pick (leb links l.0) failed_link accepted
