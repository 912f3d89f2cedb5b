-- What each refusal of a stored plan means, in the words of document 01's table (of 7 in those of document 02, L5) and without a reader:
-- which bytes have passed, where the next number is due, and what is wrong with it. A plan is told here from its numbers, as they are stored.
use Rattle.std.specs.Prelude.{ℕ, ◌+◌, ◌-◌, ◌≤◌, ◌<◌, ◌≡◌, ◌⊎◌, ◌≢◌, List, [], ◌∷◌, ◌++◌, length, replicate}
use Rattle.net.specs.Limits.{most_nodes, most_links, most_weight}
use Rattle.net.specs.Refusals.{bytes_end, number_form, node_count, link_count, link_ends, link_order, link_weight, bytes_left}
use Rattle.net.specs.Rows.{Rows}
use Rattle.net.specs.Check.{Accepted}
use Rattle.net.specs.Refused.{BadNodeCount, BadWeight, InOrder, TwinsInOrder}
use Rattle.plan.specs.Number.{base, groups, most_stored, stored}
use Rattle.plan.specs.Plan.{plan_start, plan_of}
use Rattle.plan.specs.Reader.{Reading, success}

-- the elements of a list of bytes
pub data Bytes : List ℕ → Type 0 where
  none : Bytes []
  more : {b : ℕ} {s : List ℕ} → b < base + base → Bytes s → Bytes (b ∷ s)

-- groups with their top bit set: more must follow
pub data Unended : List ℕ → Type 0 where
  none : Unended []
  more : {b : ℕ} {s : List ℕ} → base ≤ b → Unended s → Unended (b ∷ s)

-- "a third group has its top bit set, or a number of several groups ends in a zero group"
pub data Malformed : List ℕ → Type 0 where
  too_many : {s : List ℕ} → Unended s → length s ≡ groups → Malformed s
  zero_group : {s : List ℕ} → Unended s → s ≢ [] → length s < groups → Malformed (s ++ (0 ∷ []))

-- A plan of m links has passed as far as the links of R: with these alone the network would be accepted.
pub record Passed (m : ℕ) (R : Rows) : Type 0 where
  pub network : Accepted R
  pub few_links : m ≤ most_links
  pub within : length R.low ≤ m

-- and a link is still due
pub record LinkDue (m : ℕ) (R : Rows) : Type 0 where
  pub passed : Passed m R
  pub more : length R.low < m

-- The next link, low to high, does not come before the last of those before it,
abbrev pub Follows : Rows → ℕ → ℕ → Type 0
Follows R low high = InOrder R (length R.low) low high

-- and, if the two join the same pair, does not weigh less.
abbrev pub TwinFollows : Rows → ℕ → ℕ → ℕ → Type 0
TwinFollows R low high weight = TwinsInOrder R (length R.low) low high weight

-- its ends have passed, the high one stored as the difference
pub record EndsPass (R : Rows) (low difference : ℕ) : Type 0 where
  pub some : 0 < difference
  pub node : low + difference < R.nodes
  pub follows : Follows R low (low + difference)

-- A number is due after these bytes, all of which have passed.
pub data Due : List ℕ → Type 0 where
  for_nodes : Due []
  for_links : {n : ℕ} → 0 < n → n ≤ most_nodes → Due (stored n)
  for_low : {m : ℕ} {R : Rows} → LinkDue m R → Due (plan_start m R)
  for_difference : {m low : ℕ} {R : Rows} → LinkDue m R → low < R.nodes → Due (plan_start m R ++ stored low)
  for_weight : {m low difference : ℕ} {R : Rows} → LinkDue m R → EndsPass R low difference
      → Due (plan_start m R ++ (stored low ++ stored difference))

-- The plan, its refusal number and its place. "The reader answers with the number and a place: for 1 the length of the input, for 7
-- the first byte of that link's low end, for 8 the first byte left, else the first byte of the faulty number."
pub data Fault : List ℕ → ℕ → ℕ → Type 0 where
  -- "the bytes end inside a number or before one that is due"
  ends : {passed : List ℕ} (rest : List ℕ) → Due passed → Unended rest → length rest < groups
      → Fault (passed ++ rest) bytes_end (length (passed ++ rest))
  -- "a third group has its top bit set, or a number of several groups ends in a zero group"
  malformed : {passed number : List ℕ} (rest : List ℕ) → Due passed → Malformed number
      → Fault (passed ++ (number ++ rest)) number_form (length passed)
  -- "node count 0 or above 32"
  nodes : {v : ℕ} (rest : List ℕ) → v < most_stored → BadNodeCount v → Fault (stored v ++ rest) node_count 0
  -- "link count above 64"
  links : {n v : ℕ} (rest : List ℕ) → 0 < n → n ≤ most_nodes → v < most_stored → most_links < v
      → Fault (stored n ++ (stored v ++ rest)) link_count (length (stored n))
  -- "low end not a node"
  low_end : {m v : ℕ} {R : Rows} (rest : List ℕ) → LinkDue m R → v < most_stored → R.nodes ≤ v
      → Fault (plan_start m R ++ (stored v ++ rest)) link_ends (length (plan_start m R))
  -- "low end not below high end, or high end not a node"
  high_end : {m low v : ℕ} {R : Rows} (rest : List ℕ) → LinkDue m R → low < R.nodes → v < most_stored → (v ≡ 0) ⊎ (R.nodes ≤ low + v)
      → Fault (plan_start m R ++ (stored low ++ (stored v ++ rest))) link_ends (length (plan_start m R ++ stored low))
  -- "a descending pair" (document 02, L5)
  order : {m low difference : ℕ} {R : Rows} (rest : List ℕ) → LinkDue m R → 0 < difference → low + difference < R.nodes
      → (Follows R low (low + difference) → ⊥)
      → Fault (plan_start m R ++ (stored low ++ (stored difference ++ rest))) link_order (length (plan_start m R))
  -- "weight 0 or above 65,535"
  weighs : {m low difference v : ℕ} {R : Rows} (rest : List ℕ) → LinkDue m R → EndsPass R low difference → v < most_stored → BadWeight v
      → Fault (plan_start m R ++ (stored low ++ (stored difference ++ (stored v ++ rest)))) link_weight
      (length (plan_start m R ++ (stored low ++ stored difference)))
  -- "or an equal pair with a smaller weight; [..] this last check comes after 6" (document 02, L5)
  lighter : {m low difference weight : ℕ} {R : Rows} (rest : List ℕ) → LinkDue m R → EndsPass R low difference
      → 0 < weight → weight ≤ most_weight → (TwinFollows R low (low + difference) weight → ⊥)
      → Fault (plan_start m R ++ (stored low ++ (stored difference ++ (stored weight ++ rest)))) link_order (length (plan_start m R))
  -- "bytes left after the last link"
  has_bytes_left : {R : Rows} (rest : List ℕ) → Accepted R → rest ≢ [] → Fault (plan_of R ++ rest) bytes_left (length (plan_of R))

-- "Success has number 0, place 0 and, in the reader's network, 0 in the places past the last link."
abbrev pub padded : List ℕ → List ℕ
padded row = row ++ replicate (most_links - length row) 0

abbrev pub acceptance : Rows → Reading
acceptance R =
    success (length R.low)
    (record { nodes = R.nodes; low = padded R.low; high = padded R.high; weight = padded R.weight })

-- The bytes are the plan of an accepted network.
pub record IsPlan (s : List ℕ) : Type 0 where
  pub rows : Rows
  pub network : Accepted rows
  pub bytes : s ≡ plan_of rows
