-- The check of a network in memory: "Every entry on a network in memory checks 9, 3, 4, then link by link 5, 7, 6; the place is that
-- link's number, else 0." With parallel links (document 02, L5): "Refusal 7 is then given only for a descending pair, or an equal pair
-- with a smaller weight; for parallel links this last check comes after 6." So link by link 5, 7, 6, 7. First as a reader would do it,
-- then what an accepted network is, in the documents' words.
use Rattle.std.specs.Prelude.{ℕ, zero, suc, ◌≤◌, ◌<◌, Bool, not, ◌≡◌, ◌⊎◌, length, get_or, ltb, leb, eqb}
use Rattle.net.specs.Limits.{most_nodes, most_links, most_weight}
use Rattle.net.specs.Refusals.{accepted, node_count, link_count, link_ends, link_weight, link_order, row_lengths}
use Rattle.net.specs.Choice.{pick, either, both}
use Rattle.net.specs.Rows.{Rows}
use Rattle.net.specs.declared.check.Span.{Span}
use Rattle.net.specs.Verdict.{Verdict}

-- "low end not a node, low end not below high end, or high end not a node"
unfoldable pub bad_ends : ℕ → ℕ → ℕ → Bool
bad_ends n low high = either (leb n low) (either (leb high low) (leb n high))

-- "weight 0 or above 65,535"
unfoldable pub bad_weight : ℕ → Bool
bad_weight w = either (eqb w 0) (ltb most_weight w)

-- "a descending pair": the ends come before those of the link before, low end first
unfoldable pub descends : Span → ℕ → ℕ → Bool
descends before low high = either (ltb low before.low) (both (eqb low before.low) (ltb high before.high))

-- "an equal pair with a smaller weight"
unfoldable pub lighter_twin : Span → ℕ → ℕ → ℕ → Bool
lighter_twin before low high weight = both (eqb low before.low) (both (eqb high before.high) (ltb weight before.weight))

-- what link k joins and weighs
abbrev pub span_at : Rows → ℕ → Span
span_at R k = record { low = get_or R.low k 0; high = get_or R.high k 0; weight = get_or R.weight k 0 }

-- before the first link: nothing comes before it
abbrev pub origin : Span
origin = record { low = 0; high = 0; weight = 0 }

-- what link k is compared with: the link before it
unfoldable pub span_before : Rows → ℕ → Span
span_before R zero = origin
span_before R (suc k) = span_at R k

-- the first fault of one link after the one before it, or 0
unfoldable pub link_fault : ℕ → Span → ℕ → ℕ → ℕ → ℕ
link_fault n before low high weight =
    pick (bad_ends n low high) link_ends
    (pick (descends before low high) link_order
    (pick (bad_weight weight) link_weight
    (pick (lighter_twin before low high weight) link_order accepted)))

-- an answer with no place of its own
abbrev pub verdict : ℕ → Verdict
verdict number = record { number = number; place = 0 }

-- the first faulty link among `left` links from k on, with its number as the place
unfoldable pub links_from : ℕ → Rows → ℕ → Verdict
links_from zero R k = verdict accepted
links_from (suc left) R k =
    let fault = link_fault R.nodes (span_before R k) (get_or R.low k 0) (get_or R.high k 0) (get_or R.weight k 0) in
    pick (eqb fault accepted) (links_from left R (suc k)) (record { number = fault; place = k })

unfoldable pub rows_differ : Rows → Bool
rows_differ R = not (both (eqb (length R.high) (length R.low)) (eqb (length R.weight) (length R.low)))

-- "node count 0 or above 32"
unfoldable pub bad_node_count : ℕ → Bool
bad_node_count n = either (eqb n 0) (ltb most_nodes n)

unfoldable pub check_network : Rows → Verdict
check_network R =
    pick (rows_differ R) (verdict row_lengths)
    (pick (bad_node_count R.nodes) (verdict node_count)
    (pick (ltb most_links (length R.low)) (verdict link_count) (links_from (length R.low) R 0)))

-- "Then its own in the order 13, 12, 11 (source, then destination), 10, 14, 16, 15, as far as it takes them": the first refusal decides.
unfoldable pub or_else : Verdict → Verdict → Verdict
or_else first second = pick (eqb first.number accepted) second first

-- the same of refusals by their numbers alone
unfoldable pub first_number : ℕ → ℕ → ℕ
first_number first second = pick (eqb first accepted) second first

-- a refusal that names no place, where the test holds
unfoldable pub refused_if : Bool → ℕ → Verdict
refused_if test number = pick test (verdict number) (verdict accepted)

-- One link, in document 01's words: "A link joins a low node to a higher one, with one weight for both directions, 1 to 65,535."
pub record Joins (n low high weight : ℕ) : Type 0 where
  pub below : low < high
  pub node : high < n
  pub weighs : 0 < weight
  pub light : weight ≤ most_weight

-- "Links stand in ascending order of low end, then high end", a pair that is equal to the one before included (document 02, L5)
abbrev pub Ascends : Span → ℕ → ℕ → Type 0
Ascends before low high = (before.low < low) ⊎ ((before.low ≡ low) × (before.high ≤ high))

-- "equal pairs stand in ascending order of weight, equal weights allowed" (document 02, L5)
abbrev pub TwinsAscend : Span → ℕ → ℕ → ℕ → Type 0
TwinsAscend before low high weight = before.low ≡ low → before.high ≡ high → before.weight ≤ weight

-- An accepted network: "1 to 32 nodes, numbered from 0. 0 to 64 links. [..] Links stand in ascending order of low end, then high end",
-- and "equal pairs stand in ascending order of weight" (document 02, L5).
pub record Accepted (R : Rows) : Type 0 where
  pub high_row : length R.high ≡ length R.low
  pub weight_row : length R.weight ≡ length R.low
  pub some_node : 0 < R.nodes
  pub few_nodes : R.nodes ≤ most_nodes
  pub few_links : length R.low ≤ most_links
  pub joins : (k : ℕ) → k < length R.low → Joins R.nodes (get_or R.low k 0) (get_or R.high k 0) (get_or R.weight k 0)
  pub ascends : (k : ℕ) → suc k < length R.low → Ascends (span_at R k) (get_or R.low (suc k) 0) (get_or R.high (suc k) 0)
  pub twins : (k : ℕ) → suc k < length R.low
      → TwinsAscend (span_at R k) (get_or R.low (suc k) 0) (get_or R.high (suc k) 0) (get_or R.weight (suc k) 0)
