-- When a network in memory is refused, in the documents' words: each refusal with its fault, after all that is checked before it has
-- passed. "Every entry on a network in memory checks 9, 3, 4, then link by link 5, 7, 6; the place is that link's number, else 0." For
-- parallel links 7 "comes after 6" (document 02, L5): link by link 5, 7, 6, 7. proofs/Refused.antt shows that the check refuses exactly
-- these.
use Rattle.std.specs.Prelude.{ℕ, suc, ◌≤◌, ◌<◌, ◌≡◌, ◌⊎◌, ◌≢◌, length, get_or}
use Rattle.net.specs.Limits.{most_nodes, most_links, most_weight}
use Rattle.net.specs.Refusals.{node_count, link_count, link_ends, link_weight, link_order, row_lengths}
use Rattle.net.specs.Rows.{Rows}
use Rattle.net.specs.Check.{span_at, Joins, Ascends, TwinsAscend}

-- "the three rows differ in length"
abbrev pub RowsDiffer : Rows → Type 0
RowsDiffer R = (length R.high ≢ length R.low) ⊎ (length R.weight ≢ length R.low)

-- "node count 0 or above 32"
abbrev pub BadNodeCount : ℕ → Type 0
BadNodeCount n = (n ≡ 0) ⊎ (most_nodes < n)

-- "low end not a node, low end not below high end, or high end not a node"
abbrev pub BadEnds : ℕ → ℕ → ℕ → Type 0
BadEnds n low high = (n ≤ low) ⊎ ((high ≤ low) ⊎ (n ≤ high))

-- "weight 0 or above 65,535"
abbrev pub BadWeight : ℕ → Type 0
BadWeight weight = (weight ≡ 0) ⊎ (most_weight < weight)

-- a link low to high, if it is link k, does not come before the one before it, if there is one
abbrev pub InOrder : Rows → ℕ → ℕ → ℕ → Type 0
InOrder R k low high = (j : ℕ) → suc j ≡ k → Ascends (span_at R j) low high

-- and, if the two join the same pair, does not weigh less
abbrev pub TwinsInOrder : Rows → ℕ → ℕ → ℕ → ℕ → Type 0
TwinsInOrder R k low high weight = (j : ℕ) → suc j ≡ k → TwinsAscend (span_at R j) low high weight

-- the first fault of link k, by its refusal number: link by link 5, 7, 6, 7
pub data Faulty (R : Rows) (k : ℕ) : ℕ → Type 0 where
  has_bad_ends : BadEnds R.nodes (get_or R.low k 0) (get_or R.high k 0) → Faulty R k link_ends
  -- "a descending pair"
  descending : get_or R.low k 0 < get_or R.high k 0 → get_or R.high k 0 < R.nodes
      → (InOrder R k (get_or R.low k 0) (get_or R.high k 0) → ⊥) → Faulty R k link_order
  has_bad_weight : get_or R.low k 0 < get_or R.high k 0 → get_or R.high k 0 < R.nodes
      → InOrder R k (get_or R.low k 0) (get_or R.high k 0) → BadWeight (get_or R.weight k 0) → Faulty R k link_weight
  -- "an equal pair with a smaller weight"
  has_lighter_twin : Joins R.nodes (get_or R.low k 0) (get_or R.high k 0) (get_or R.weight k 0)
      → InOrder R k (get_or R.low k 0) (get_or R.high k 0)
      → (TwinsInOrder R k (get_or R.low k 0) (get_or R.high k 0) (get_or R.weight k 0) → ⊥) → Faulty R k link_order

-- the rows and the node count pass
pub record Counted (R : Rows) : Type 0 where
  pub high_row : length R.high ≡ length R.low
  pub weight_row : length R.weight ≡ length R.low
  pub some_node : 0 < R.nodes
  pub few_nodes : R.nodes ≤ most_nodes

-- the rows, both counts and all links before link k pass
pub record Reached (R : Rows) (k : ℕ) : Type 0 where
  pub counted : Counted R
  pub few_links : length R.low ≤ most_links
  pub joins : (j : ℕ) → j < k → Joins R.nodes (get_or R.low j 0) (get_or R.high j 0) (get_or R.weight j 0)
  pub ascends : (j : ℕ) → suc j < k → Ascends (span_at R j) (get_or R.low (suc j) 0) (get_or R.high (suc j) 0)
  pub twins : (j : ℕ) → suc j < k
      → TwinsAscend (span_at R j) (get_or R.low (suc j) 0) (get_or R.high (suc j) 0) (get_or R.weight (suc j) 0)

-- the network is refused with this number at this place: "9, 3, 4, then link by link"
pub data Refused (R : Rows) : ℕ → ℕ → Type 0 where
  has_uneven_rows : RowsDiffer R → Refused R row_lengths 0
  has_bad_node_count : length R.high ≡ length R.low → length R.weight ≡ length R.low → BadNodeCount R.nodes
      → Refused R node_count 0
  many_links : Counted R → most_links < length R.low → Refused R link_count 0
  faulty_link : {number k : ℕ} → Reached R k → k < length R.low → Faulty R k number → Refused R number k
