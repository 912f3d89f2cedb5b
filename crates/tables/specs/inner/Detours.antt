-- What the code keeps of the links tried, for a node and a destination: the key links found, and the dearest of the best paths that avoid
-- one of them each, which avoids all of them (graph's Dearest). So the squares without one link are enough for the forwarding entries;
-- the backwarding entries need the key links.
use Rattle.std.specs.Prelude.{ℕ, ◌<◌, ◌≤◌, ◌≡◌, ◌≢◌, ◌⊎◌, List, [], ◌∷◌, get_or, replicate, eqb}
use Rattle.graph.specs.Network.{Network, reverse}
use Rattle.graph.specs.Path.{BestPath, But, weight_sum}
use Rattle.graph.specs.Set.{SetOf, link_set}
use Rattle.graph.specs.Entries.{KeyLink}
use Rattle.net.specs.Limits.{most_nodes}
use Rattle.net.specs.Choice.{pick, both}
use Rattle.net.specs.inner.LinkSet.{value, no_links, with_link, is_empty}
use Rattle.net.specs.declared.link_set.LinkSet.{LinkSet}
use Rattle.paths.specs.inner.Cost.{unknown, here_cost, is_known, before}
use Rattle.paths.specs.inner.Column.{entry_at}
use Rattle.paths.specs.inner.Square.{column_for}
use Rattle.paths.specs.declared.cost.Cost.{Cost}
use Rattle.tables.specs.declared.kept.Kept.{Kept}
use Rattle.tables.specs.inner.KeyTest.{key_test}

-- the dearer of two costs, the first where they are equal
unfoldable pub dearer_of : Cost → Cost → Cost
dearer_of a b = pick (before a b) b a

-- What is kept for a node after link k was tried: if it is key for the interface by which the node after it would send the packet back,
-- that link too, and the dearer of the old detour and the one without the link.
unfoldable pub noted : Kept → ℕ → Cost → Cost → Cost → Cost → Cost → Kept
noted kept k whole after ahead one other =
    pick (key_test (reverse whole.first) whole after ahead one other)
    (record { keys = with_link kept.keys k; detour = dearer_of kept.detour after })
    kept

-- The key links of interface h for d, once all links were tried: those kept for its head where that would send straight back over h,
-- else none.
unfoldable pub keys_for : ℕ → Cost → Kept → LinkSet
keys_for h whole kept = pick (both (is_known whole) (eqb whole.first (reverse h))) kept.keys no_links

-- The cost by which interface h's head forwards to d: the dearest detour where h has key links, else the head's own best path.
unfoldable pub forward_cost : ℕ → Cost → Kept → Cost
forward_cost h whole kept = pick (is_empty (keys_for h whole kept)) whole kept.detour

-- The detours kept for node i and destination d once the links below `tried` were tried: none, where none of them is key for the
-- interface that i would send straight back over; else the dearest of the best paths from i that avoid one such key link.
pub data Dearest (N : Network) (i d h tried : ℕ) (c : Cost) : Type 0 where
  no_key : c.sum ≡ 0 → ((l : ℕ) → l < tried → KeyLink N d h l → ⊥) → Dearest N i d h tried c
  dearest : {k f : ℕ} {p : List ℕ} → k < tried → KeyLink N d h k → BestPath N (But k) i (f ∷ p) d → c.sum ≡ weight_sum N (f ∷ p)
      → value c.links ≡ link_set (f ∷ p) → c.first ≡ f → c.sum < unknown
      → ((l g : ℕ) (q : List ℕ) → l < tried → KeyLink N d h l → BestPath N (But l) i (g ∷ q) d
      → (weight_sum N (g ∷ q) < c.sum) ⊎ ((weight_sum N (g ∷ q) ≡ c.sum) × (link_set (g ∷ q) ≤ value c.links)))
      → Dearest N i d h tried c

-- nothing tried yet
unfoldable pub nothing_kept : Kept
nothing_kept = record { keys = no_links; detour = here_cost }

unfoldable pub none_kept : List (List Kept)
none_kept = replicate most_nodes (replicate most_nodes nothing_kept)

-- what is kept for all nodes and one destination, and for one of the nodes
unfoldable pub kept_for : List (List Kept) → ℕ → List Kept
kept_for square d = get_or square d []

unfoldable pub kept_at : List Kept → ℕ → Kept
kept_at kept i = get_or kept i nothing_kept

-- the key links of interface h for d among the links below `tried`, as a set
abbrev pub KeysBelow : Network → ℕ → ℕ → ℕ → LinkSet → Type 0
KeysBelow N d h tried set = SetOf N.links (λ k. (k < tried) × KeyLink N d h k) (value set)

-- What is kept for node i once the links below `tried` were tried, `whole` being its cost over all links: where it has a way on, the key
-- links of the interface that it would send straight back over, and the dearest detour; elsewhere no key links.
pub record Keeps (N : Network) (i d tried : ℕ) (whole : Cost) (kept : Kept) : Type 0 where
  pub keys : i ≢ d → whole.sum < unknown → KeysBelow N d (reverse whole.first) tried kept.keys
  pub detour : i ≢ d → whole.sum < unknown → Dearest N i d (reverse whole.first) tried kept.detour
  pub none_here : i ≡ d → kept.keys ≡ no_links
  pub none_apart : unknown ≤ whole.sum → kept.keys ≡ no_links

-- for all nodes and one destination, by their best paths over all links
abbrev pub AllKept : Network → ℕ → ℕ → List Cost → List Kept → Type 0
AllKept N d tried all kept = (i : ℕ) → i < N.nodes → Keeps N i d tried (entry_at all i) (kept_at kept i)

-- for all destinations
abbrev pub SquareKept : Network → ℕ → List (List Cost) → List (List Kept) → Type 0
SquareKept N tried all kept = (d : ℕ) → d < N.nodes → AllKept N d tried (column_for all d) (kept_for kept d)
