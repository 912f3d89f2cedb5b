-- A network in memory, and the network of the mathematics that it is.
use Rattle.std.specs.Prelude.{ℕ, ◌<◌, ◌%◌, List, length, get_or}
use Rattle.graph.specs.Network.{Network, link, by_direction}

-- "In memory a network is its node count and three rows: low ends, high ends, weights."
pub record Rows : Type 0 where
  pub nodes : ℕ
  pub low : List ℕ
  pub high : List ℕ
  pub weight : List ℕ

-- The links that paths may use: all that stand in the rows. What is above this crate knows it by the two laws `present_row` and
-- `row_present` (proofs/Rows.antt), and not by this line.
unfoldable pub Present : Rows → ℕ → Type 0
Present R k = k < length R.low

-- the rows as the mathematics' network: link k stands at place k of each row
abbrev pub network_of : Rows → Network
network_of R =
    record {
      nodes = R.nodes;
      links = length R.low;
      low = λ k. get_or R.low k 0;
      high = λ k. get_or R.high k 0;
      weight = λ k. get_or R.weight k 0;
      Present = Present R;
    }

-- The node that an interface leaves, read off the two rows of ends; with the rows exchanged, the one that it enters. These are `tail`
-- and `head` of the mathematics' network (proofs/Rows.antt), whatever its node count and weights.
abbrev pub tail_of : List ℕ → List ℕ → ℕ → ℕ
tail_of low high f = by_direction (f % 2) (get_or low (link f) 0) (get_or high (link f) 0)

abbrev pub head_of : List ℕ → List ℕ → ℕ → ℕ
head_of low high = tail_of high low

-- the same links, each from its other end
abbrev pub turned : Rows → Rows
turned R = record { nodes = R.nodes; low = R.high; high = R.low; weight = R.weight }
