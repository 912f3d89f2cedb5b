-- How the code fills a column: rounds over the links, each of which offers its two ends their ways over it, until a round changes nothing.
-- That this leaves the best column is proved (proofs/BestColumn.antt).
use Rattle.std.specs.Prelude.{ℕ, zero, suc, ◌+◌, ◌*◌, ◌-◌, Bool, true, false, not, List, length, get_or, set, replicate}
use Rattle.std.specs.Prelude.{Option, Some, None}
use Rattle.net.specs.Limits.{most_nodes}
use Rattle.net.specs.Choice.{pick, both}
use Rattle.net.specs.Rows.{Rows}
use Rattle.net.specs.inner.LinkSet.{no_links, with_link, has_link, meeting}
use Rattle.net.specs.declared.link_set.LinkSet.{LinkSet}
use Rattle.paths.specs.inner.Cost.{no_cost, here_cost, is_known, before, extended}
use Rattle.paths.specs.inner.Column.{entry_at}
use Rattle.paths.specs.declared.cost.Cost.{Cost}

-- what one pass over a column leaves, and whether it changed a cost
pub record Revised : Type 0 where
  pub column : List Cost
  pub changed : Bool

-- what a pass answers: the column that it changed, or none where it left the column as it was
abbrev pub revised_told : List Cost → Option (List Cost) → Revised
revised_told column (Some next) = record { column = next; changed = true }
revised_told column None = record { column = column; changed = false }

-- a pass over a column: the column with which it begins, and one place replaced
abbrev pub unrevised : List Cost → Revised
unrevised column = record { column = column; changed = false }

abbrev pub revise : Revised → ℕ → Cost → Revised
revise s i c = record { column = set s.column i c; changed = true }

-- at the start only the destination's own cost is known
unfoldable pub start_column : ℕ → List Cost
start_column d = set (replicate most_nodes no_cost) d here_cost

-- Interface f of link k, from x to y, offers node x its way; it is stored if it comes before what x has.
unfoldable pub offer : ℕ → ℕ → ℕ → ℕ → ℕ → Revised → Revised
offer f k x y weight s =
    let way = extended (entry_at s.column y) weight k f in
    pick (before way (entry_at s.column x)) (revise s x way) s

-- both interfaces of a link
unfoldable pub link_offers : ℕ → ℕ → ℕ → ℕ → Revised → Revised
link_offers k x y weight s = offer (2 * k + 1) k y x weight (offer (2 * k) k x y weight s)

-- Link k makes offers: it is left in, and not both of its ends were known when the rounds began. What was known then is final.
unfoldable pub makes_offers : LinkSet → ℕ → Cost → Cost → Bool
makes_offers out k one other = both (not (has_link out k)) (not (both (is_known one) (is_known other)))

-- the links that make offers, the `left` ones from k on added to a set; the rounds begin with the column `given`
unfoldable pub offering_from : ℕ → List ℕ → List ℕ → LinkSet → List Cost → ℕ → LinkSet → LinkSet
offering_from zero low high out given k links = links
offering_from (suc left) low high out given k links =
    offering_from left low high out given (suc k)
    (pick (makes_offers out k (entry_at given (get_or low k 0)) (entry_at given (get_or high k 0))) (with_link links k) links)

unfoldable pub offering_links : List ℕ → List ℕ → LinkSet → List Cost → LinkSet
offering_links low high out given = offering_from (length low) low high out given 0 no_links

-- The link whose turn comes after j others: rounds go up the links and down again, in turn.
unfoldable pub turn_of : ℕ → Bool → ℕ → ℕ
turn_of links upward j = pick upward j (links - 1 - j)

-- one round: the offers of the links in the set, as far as their turns come after j others; `left` turns are left
unfoldable pub round_from : ℕ → List ℕ → List ℕ → List ℕ → LinkSet → Bool → ℕ → Revised → Revised
round_from zero low high weight offering upward j s = s
round_from (suc left) low high weight offering upward j s =
    let k = turn_of (length low) upward j in
    round_from left low high weight offering upward (suc j)
    (pick (has_link offering k) (link_offers k (get_or low k 0) (get_or high k 0) (get_or weight k 0) s) s)

unfoldable pub round_of : List ℕ → List ℕ → List ℕ → LinkSet → Bool → List Cost → Revised
round_of low high weight offering upward column = round_from (length low) low high weight offering upward 0 (unrevised column)

-- at most `left` rounds more, and none after one that changes nothing
unfoldable pub rounds_from : ℕ → Rows → LinkSet → Bool → List Cost → List Cost
rounds_from zero R offering upward column = column
rounds_from (suc left) R offering upward column =
    let one = round_of R.low R.high R.weight offering upward column in
    pick one.changed (rounds_from left R offering (not upward) one.column) one.column

-- of n nodes, n - 1 rounds are enough
unfoldable pub settled : Rows → LinkSet → List Cost → List Cost
settled R out given = rounds_from (R.nodes - 1) R (offering_links R.low R.high out given) true given

-- the costs that use a link of the set are taken out of the `left` places from i on
unfoldable pub blank_from : ℕ → LinkSet → ℕ → Revised → Revised
blank_from zero out i s = s
blank_from (suc left) out i s =
    blank_from left out (suc i) (pick (meeting (entry_at s.column i).links out) (revise s i no_cost) s)

unfoldable pub blanked : ℕ → LinkSet → List Cost → Revised
blanked n out column = blank_from n out 0 (unrevised column)
