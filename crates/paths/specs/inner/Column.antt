-- The column of costs, and what it shows: the costs of all nodes for one destination, each that of the best path over the links left in,
-- or none.
use Rattle.std.specs.Prelude.{ℕ, ◌≤◌, ◌<◌, ◌≡◌, List, ◌∷◌, get_or}
use Rattle.graph.specs.Network.{Network}
use Rattle.graph.specs.Path.{Path, BestPath, Over, weight_sum}
use Rattle.graph.specs.Set.{link_set}
use Rattle.net.specs.inner.LinkSet.{value, Without}
use Rattle.net.specs.declared.link_set.LinkSet.{LinkSet}
use Rattle.paths.specs.inner.Cost.{unknown, no_cost}
use Rattle.paths.specs.declared.cost.Cost.{Cost}

-- the entry at a place; none past the end
unfoldable pub entry_at : List Cost → ℕ → Cost
entry_at column i = get_or column i no_cost

-- The entry c of i for d is the cost of the best path over the links left in, with its first interface, or says that there is no path.
pub data Shows (N : Network) (X : ℕ → Type 0) (i d : ℕ) (c : Cost) : Type 0 where
  here : i ≡ d → c.sum ≡ 0 → value c.links ≡ 0 → Shows N X i d c
  found : {f : ℕ} {p : List ℕ} → BestPath N X i (f ∷ p) d → c.sum ≡ weight_sum N (f ∷ p) → value c.links ≡ link_set (f ∷ p)
      → c.first ≡ f → c.sum < unknown → Shows N X i d c
  none : ((p : List ℕ) → Path N i p d → Over X p → ⊥) → c ≡ no_cost → Shows N X i d c

-- the whole column; no place beyond the nodes has a cost
pub record BestColumn (N : Network) (X : ℕ → Type 0) (d : ℕ) (column : List Cost) : Type 0 where
  pub shows : (i : ℕ) → i < N.nodes → Shows N X i d (entry_at column i)
  pub beyond : (i : ℕ) → N.nodes ≤ i → entry_at column i ≡ no_cost

-- The column `after` shows the best paths without the links `out`, whatever node the column before it is for, if that one shows the
-- best paths without some of these links, or without none.
abbrev pub Restarted : Network → LinkSet → List Cost → List Cost → Type 0
Restarted N out column after =
    (fewer : LinkSet) (d : ℕ) → d < N.nodes → ((k : ℕ) → Without out k → Without fewer k)
    → BestColumn N (Without fewer) d column → BestColumn N (Without out) d after
