-- Parallel links (document 02, L5), for the mathematics: what it means that link l comes after a link k of the same pair of nodes. "Equal
-- pairs stand in ascending order of weight, equal weights allowed", and of equal weights the rule for equal paths prefers k. So no best
-- path over all links crosses l, and l is key link of no interface (proofs/Twins.antt).
use Rattle.std.specs.Prelude.{◌≡◌, ℕ, ◌<◌, ◌≤◌}
use Rattle.graph.specs.Network.{Network}

pub record ComesAfterTwin (N : Network) (k l : ℕ) : Type 0 where
  pub present : N.Present k
  pub later : k < l
  pub same_low : N.low k ≡ N.low l
  pub same_high : N.high k ≡ N.high l
  pub heavier : N.weight k ≤ N.weight l
