-- The rows are a network of the mathematics: its tails and heads are read off the two rows of ends, by the interface's direction.
use Prim.Native.Nat.{ℕ, ◌*◌, ◌%◌, ◌<◌}
use mathlib.Core.Path.{◌≡◌, refl}
use mathlib.Core.List.{List}
use native.Mathlib.Decide.{dec_lt}
use native.Mathlib.Omega.{arith}
use lib.ListN.{length, get_or}
use Rattle.graph.specs.Network.{link, by_direction, tail, head}
use Rattle.net.specs.Rows.{Rows, Present, network_of, tail_of, head_of}

-- The two laws of `Present`: a link that paths may use stands in the rows, and every link that does may be used.
module _ (R : Rows) (k : ℕ) where
  pub present_row : Present R k → k < length R.low
  unfolding Present
  present_row p = p

  pub row_present : k < length R.low → Present R k
  unfolding Present
  row_present h = h

  pub present? : Dec (Present R k)
  unfolding Present
  present? = dec_lt k (length R.low)

-- the same of an interface and its link; and its two nodes
module _ (R : Rows) (f : ℕ) where
  pub interface_present : f < 2 * length R.low → Present R (link f)
  unfolding Present link
  interface_present h = omega arith

  pub interface_row : Present R (link f) → f < 2 * length R.low
  unfolding Present link
  interface_row h = omega arith

  pub tail_of_lem : tail (network_of R) f ≡ tail_of R.low R.high f
  unfolding tail
  tail_of_lem = refl

  pub head_of_lem : head (network_of R) f ≡ head_of R.low R.high f
  unfolding head
  head_of_lem = refl

-- the first row decides for an even interface, the second for an odd one
pub even_row : (first second : List ℕ) (f k : ℕ) → k ≡ link f → f % 2 ≡ 0
    → get_or first k 0 ≡ by_direction (f % 2) (get_or first (link f) 0) (get_or second (link f) 0)
unfolding by_direction
even_row first second f k e h = rw (h, e)

pub odd_row : (first second : List ℕ) (f k : ℕ) → k ≡ link f → (f % 2 ≡ 0 → ⊥)
    → get_or second k 0 ≡ by_direction (f % 2) (get_or first (link f) 0) (get_or second (link f) 0)
unfolding by_direction
odd_row first second f k e h =
    let one : f % 2 ≡ 1 = omega arith in
    rw (one, e)
