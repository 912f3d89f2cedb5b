-- A stored plan (document 01): "In order: node count, link count, then for each link its low end, high end minus low end, weight."
use Rattle.std.specs.Prelude.{ℕ, zero, suc, ◌+◌, ◌*◌, ◌-◌, List, [], ◌++◌, length, get_or}
use Rattle.net.specs.Limits.{most_links}
use Rattle.net.specs.Rows.{Rows}
use Rattle.plan.specs.Number.{groups, stored}

-- one link's three numbers
unfoldable pub link_bytes : ℕ → ℕ → ℕ → List ℕ
link_bytes low high weight = stored low ++ (stored (high - low) ++ stored weight)

-- link k of a network in memory
abbrev pub link_bytes_at : Rows → ℕ → List ℕ
link_bytes_at R k = link_bytes (get_or R.low k 0) (get_or R.high k 0) (get_or R.weight k 0)

-- the links from k on, `left` of them
unfoldable pub links_bytes : ℕ → Rows → ℕ → List ℕ
links_bytes zero R k = []
links_bytes (suc left) R k = link_bytes_at R k ++ links_bytes left R (suc k)

-- how a plan of m links starts, the first of which are those of R
unfoldable pub plan_start : ℕ → Rows → List ℕ
plan_start m R = stored R.nodes ++ (stored m ++ links_bytes (length R.low) R 0)

-- the plan of a network in memory: the bytes that are stored for it
unfoldable pub plan_of : Rows → List ℕ
plan_of R = plan_start (length R.low) R

-- No link is longer: its low end and the difference take one group each, its weight at most all. No plan is longer: the two counts
-- take one group each.
abbrev pub longest_link : ℕ
longest_link = 2 + groups

abbrev pub longest : ℕ
longest = 2 + longest_link * most_links
