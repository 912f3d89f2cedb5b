-- The reader, as document 01 tells it: "A plan is read one number after another from the lent bytes, and each number is checked as
-- soon as it has been read. In a link: low end, difference, then the link's order against the one before, then the weight. The
-- first fault ends the reading, in whichever link and number it stands." With parallel links (document 02, L5) the order is also that of
-- the weights of an equal pair, and "this last check comes after 6". What each refusal means in the documents' own words, without a reader,
-- is in Fault; that the two agree is a theorem.
use Rattle.std.specs.Prelude.{ℕ, zero, suc, ◌+◌, List, length, replicate, set, ltb, leb, eqb}
use Rattle.net.specs.Limits.{most_links}
use Rattle.net.specs.Refusals.{accepted, node_count, link_count, link_ends, link_order, link_weight, bytes_left}
use Rattle.net.specs.Choice.{pick, either}
use Rattle.net.specs.Rows.{Rows}
use Rattle.net.specs.Check.{descends, bad_weight, lighter_twin, bad_node_count, origin}
use Rattle.net.specs.Lent.{rows_held}
use Rattle.net.specs.declared.lent_rows.Network.{Network}
use Rattle.net.specs.declared.check.Span.{Span}
use Rattle.plan.specs.Number.{NumberAt, Value, Refused as NoNumber, number_at}

-- "The reader answers with the number and a place", and a network.
pub record Reading : Type 0 where
  pub number : ℕ
  pub place : ℕ
  pub network : Network

-- what stands where a link is due: its low end, high end, weight and the place after it, or a refusal number and its place
pub data LinkAt : Type 0 where
  Got : ℕ → ℕ → ℕ → ℕ → LinkAt
  Refused : ℕ → ℕ → LinkAt

-- "The reader's answer holds the whole network; no rows are lent to it": m links in rows that have a place for each link there may be.
abbrev pub network_read : ℕ → Rows → Network
network_read m R = record { nodes = R.nodes; links = m; low = R.low; high = R.high; weight = R.weight }

-- the network in memory that such an answer holds: its rows as far as its links go
abbrev pub rows_read : Network → Rows
rows_read = rows_held

-- such rows before the first link
abbrev pub no_links : ℕ → Rows
no_links n = record { nodes = n; low = replicate most_links 0; high = replicate most_links 0; weight = replicate most_links 0 }

-- and with link k filled in
abbrev pub with_link : Rows → ℕ → ℕ → ℕ → ℕ → Rows
with_link R k low high weight =
    record { nodes = R.nodes; low = set R.low k low; high = set R.high k high; weight = set R.weight k weight }

-- "Success has number 0, place 0"
abbrev pub success : ℕ → Rows → Reading
success m R = record { number = accepted; place = 0; network = network_read m R }

-- A refusal: "Its network is then the one-node network without links."
unfoldable pub refusal : ℕ → ℕ → Reading
refusal number place = record { number = number; place = place; network = network_read 0 (no_links 1) }

-- the weight, read at `third`, of a link whose ends have passed and whose low end stands at `first`; `before` is the link before it
unfoldable pub take_weight : ℕ → ℕ → ℕ → ℕ → Span → NumberAt → LinkAt
take_weight first third low high before (NoNumber number place) = Refused number place
take_weight first third low high before (Value weight next) =
    pick (bad_weight weight) (Refused link_weight third)
    (pick (lighter_twin before low high weight) (Refused link_order first) (Got low high weight next))

unfoldable pub weight_at : List ℕ → ℕ → ℕ → ℕ → ℕ → Span → LinkAt
weight_at s first third low high before = take_weight first third low high before (number_at s third)

-- the difference, read at `second`, of a link whose low end has passed and stands at `first`
unfoldable pub take_difference : List ℕ → ℕ → ℕ → ℕ → ℕ → Span → NumberAt → LinkAt
take_difference s n first second low before (NoNumber number place) = Refused number place
take_difference s n first second low before (Value difference third) =
    pick (either (eqb difference 0) (leb n (low + difference))) (Refused link_ends second)
    (pick (descends before low (low + difference)) (Refused link_order first) (weight_at s first third low (low + difference) before))

unfoldable pub difference_at : List ℕ → ℕ → ℕ → ℕ → ℕ → Span → LinkAt
difference_at s n first second low before = take_difference s n first second low before (number_at s second)

-- the link that is stored at `first`: its low end, then the rest
unfoldable pub take_low : List ℕ → ℕ → ℕ → Span → NumberAt → LinkAt
take_low s n first before (NoNumber number place) = Refused number place
take_low s n first before (Value low second) = pick (leb n low) (Refused link_ends first) (difference_at s n first second low before)

unfoldable pub link_at : List ℕ → ℕ → ℕ → Span → LinkAt
link_at s n first before = take_low s n first before (number_at s first)

-- a link that was read goes on; a refusal ends the reading
unfoldable pub take_link : (ℕ → ℕ → ℕ → ℕ → Reading) → LinkAt → Reading
take_link more (Refused number place) = refusal number place
take_link more (Got low high weight next) = more low high weight next

-- the `left` links from link k on, of m in all, the next one stored at `at`, with the rows as they are filled so far
unfoldable pub links_read : ℕ → List ℕ → ℕ → ℕ → Span → ℕ → Rows → Reading
links_read zero s m at before k R = pick (ltb at (length s)) (refusal bytes_left at) (success m R)
links_read (suc left) s m at before k R =
    take_link
    (λ low high weight next.
    links_read left s m next (record { low = low; high = high; weight = weight }) (k + 1) (with_link R k low high weight))
    (link_at s R.nodes at before)

-- the link count, read at `second`
unfoldable pub take_link_count : List ℕ → ℕ → ℕ → NumberAt → Reading
take_link_count s n second (NoNumber number place) = refusal number place
take_link_count s n second (Value m at) = pick (ltb most_links m) (refusal link_count second) (links_read m s m at origin 0 (no_links n))

unfoldable pub link_count_at : List ℕ → ℕ → ℕ → Reading
link_count_at s n second = take_link_count s n second (number_at s second)

unfoldable pub take_node_count : List ℕ → NumberAt → Reading
take_node_count s (NoNumber number place) = refusal number place
take_node_count s (Value n second) = pick (bad_node_count n) (refusal node_count 0) (link_count_at s n second)

unfoldable pub read_plan : List ℕ → Reading
read_plan s = take_node_count s (number_at s 0)
