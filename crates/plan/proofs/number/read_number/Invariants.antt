-- `read_number` meets `number_at`: the loop's invariant is that the number is what the groups from here on make of it. The groups
-- passed are worth less than the next one, whose worth times that of the groups left is `most_stored`: so nothing overflows.
use Prim.Native.Nat.{ℕ, ◌*◌, ◌^◌, ◌<◌}
use mathlib.Core.Path.{◌≡◌}
use mathlib.Core.List.{List}
use Rattle.plan.specs.Number.{base, most_stored, number_at, groups_from}
use Rattle.plan.proofs.number.read_number.Given as goal

-- the groups before the place `at` have passed
pub record Passed (s : List ℕ) (first at value scale left : ℕ) : Type 0 where
  pub small : value < scale
  pub worth : scale * base ^ left ≡ most_stored
  pub rest : number_at s first ≡ groups_from left s first at value scale

abbrev pub invariant-groups : goal.invariant-groups
invariant-groups l = Passed l.s l.first l.at l.value l.scale l.left

abbrev pub decreases-groups : goal.decreases-groups
decreases-groups l = l.left
