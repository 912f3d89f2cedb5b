-- What a network that the check passed says of its counts, rows and ends, as far as an index or a call asks for it.
use Prim.Native.Nat.{ℕ, ◌≤◌, ◌<◌}
use mathlib.Core.Path.{◌≡◌}
use mathlib.Core.List.{List}
use native.Mathlib.Omega.{arith}
use lib.ListN.{length, get_or}
use Rattle.net.specs.Check.{check_network}
use Rattle.net.specs.Limits.{most_nodes, most_links}
use Rattle.net.specs.Refusals.{accepted}
use Rattle.net.specs.Rows.{Rows}
use Rattle.net.proofs.Accepted.{check_accepts}

module _ (R : Rows) (passed : (check_network R).number ≡ accepted) where
  pub some_node : 0 < R.nodes
  some_node = (check_accepts R passed).some_node

  pub few_nodes : R.nodes ≤ most_nodes
  few_nodes = (check_accepts R passed).few_nodes

-- of the rows one by one, so that `search` can read off a goal which rows are meant
module _ (n : ℕ) (low high weight : List ℕ)
    (passed : (check_network (record { nodes = n; low = low; high = high; weight = weight })).number ≡ accepted) where
  pub few_links : length low ≤ most_links
  few_links = (check_accepts _ passed).few_links

  pub high_row : length high ≡ length low
  high_row = (check_accepts _ passed).high_row

  pub weight_row : length weight ≡ length low
  weight_row = (check_accepts _ passed).weight_row

  module _ (k : ℕ) (row : k < length low) where
    pub low_node : get_or low k 0 < n
    low_node = omega (arith, (check_accepts _ passed).joins k row)

    pub high_node : get_or high k 0 < n
    high_node = omega (arith, (check_accepts _ passed).joins k row)

    -- the ends are places of a column
    pub low_place : get_or low k 0 < most_nodes
    low_place = omega (arith, low_node, few_nodes _ passed)

    pub high_place : get_or high k 0 < most_nodes
    high_place = omega (arith, high_node, few_nodes _ passed)

-- what reading the ends and weights of the links at the places of a column needs; and, of the nodes that they are, their numbers
pub ruleset link_places = (few_links, high_row, weight_row, low_place, high_place)

pub ruleset link_nodes = (few_nodes, few_links, low_node, high_node)
