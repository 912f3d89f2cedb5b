-- `put_number` puts a number's groups one after the other. The invariant: what is left to store of the number, put at the present
-- place, makes of the present room what the number, put at the first place, makes of the room at entry, and both end at one place.
use Prim.Native.Nat.{ℕ, ◌+◌, ◌<◌}
use mathlib.Core.Path.{◌≡◌}
use mathlib.Core.List.{List}
use lib.ListN.{length}
use Rattle.net.specs.inner.Overwritten.{overwritten}
use Rattle.plan.specs.Number.{most_stored, stored}
use Rattle.plan.proofs.number.put_number.Given as goal

-- the groups before the place `at` have been put
pub record Begun (value first : ℕ) (room₀ : List ℕ) (rest at : ℕ) (room : List ℕ) : Type 0 where
  pub storable : rest < most_stored
  pub same_length : length room ≡ length room₀
  pub same_end : at + length (stored rest) ≡ first + length (stored value)
  pub same_room : overwritten room at (stored rest) ≡ overwritten room₀ first (stored value)

abbrev pub invariant-loop-rest : goal.invariant-loop-rest
invariant-loop-rest l = Begun l.value l.first l.initial.room l.rest l.at l.room

abbrev pub decreases-loop-rest : goal.decreases-loop-rest
decreases-loop-rest l = l.rest
