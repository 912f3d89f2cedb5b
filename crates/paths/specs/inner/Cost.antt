-- What the code's costs are: pairs of weight sum and set of links, compared first part first, with the first interface beside them.
-- "Of two paths of equal sum, the better lacks the highest-numbered link that lies on only one of them": that set comes before.
use Rattle.std.specs.Prelude.{ℕ, ◌+◌, ◌-◌, ◌^◌, Bool, ltb, eqb}
use Rattle.net.specs.Choice.{pick, either, both}
use Rattle.net.specs.inner.LinkSet.{no_links, with_link, comes_before}
use Rattle.paths.specs.declared.cost.Cost.{Cost}

-- no path has this weight sum
abbrev pub unknown : ℕ
unknown = 2 ^ 32 - 1

unfoldable pub no_cost : Cost
no_cost = record { sum = unknown; links = no_links; first = 0 }

-- no way further than here
unfoldable pub here_cost : Cost
here_cost = record { sum = 0; links = no_links; first = 0 }

unfoldable pub is_known : Cost → Bool
is_known c = ltb c.sum unknown

-- weight sum first, then the set
unfoldable pub before : Cost → Cost → Bool
before a b = either (ltb a.sum b.sum) (both (eqb a.sum b.sum) (comes_before a.links b.links))

-- one link more in front, entered by interface f
unfoldable pub extended : Cost → ℕ → ℕ → ℕ → Cost
extended c weight k f =
    pick (ltb c.sum (unknown - weight)) (record { sum = c.sum + weight; links = with_link c.links k; first = f }) no_cost
