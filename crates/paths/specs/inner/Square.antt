-- The square of costs: "the work keeps a square of costs, 32 by 32". It has a column for each destination.
use Rattle.std.specs.Prelude.{ℕ, ◌≤◌, ◌<◌, ◌≡◌, List, [], get_or}
use Rattle.graph.specs.Network.{Network}
use Rattle.net.specs.Limits.{most_nodes}
use Rattle.paths.specs.inner.Column.{entry_at, BestColumn}
use Rattle.paths.specs.declared.cost.Cost.{Cost}

unfoldable pub column_for : List (List Cost) → ℕ → List Cost
column_for square d = get_or square d []

-- the entry of node i for destination d
abbrev pub cell : List (List Cost) → ℕ → ℕ → Cost
cell square i d = entry_at (column_for square d) i

-- a square turned: row i has at place d what row d has at place i, each below n, whatever would stand past a row's end
abbrev pub IsTurned : {A : Type 0} → List (List A) → ℕ → List (List A) → Type 0
IsTurned {A} square n turned =
    (past : A) (i d : ℕ) → i < n → d < n → get_or (get_or turned i []) d past ≡ get_or (get_or square d []) i past

-- the best paths to every node, over the links left in
abbrev pub BestSquare : Network → (ℕ → Type 0) → List (List Cost) → Type 0
BestSquare N X square = (d : ℕ) → d < N.nodes → BestColumn N X d (column_for square d)

-- a node, and as many nodes as a square has room for
pub record OneNode (n i : ℕ) : Type 0 where
  pub few_nodes : n ≤ most_nodes
  pub node : i < n
