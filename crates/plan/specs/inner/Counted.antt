-- What the reader knows where it comes to the links.
use Rattle.std.specs.Prelude.{ℕ, ◌≤◌}
use Rattle.net.specs.Limits.{most_nodes, most_links}

-- both counts have passed: a high end that passes then fits a byte, and the rows have a place for each link
pub record Counted (n m : ℕ) : Type 0 where
  pub few_nodes : n ≤ most_nodes
  pub few_links : m ≤ most_links
