-- What each function of the builder is given besides a checked network: the facts that the steps before it have brought.
use Rattle.std.specs.Prelude.{ℕ, ◌+◌, ◌*◌, ◌≤◌, ◌<◌, List, length, get_or}
use Rattle.graph.specs.Path.{All, But}
use Rattle.graph.specs.Set.{SetOf}
use Rattle.graph.specs.Entries.{KeyLink}
use Rattle.net.specs.Limits.{most_nodes, most_links}
use Rattle.net.specs.Rows.{Rows, network_of}
use Rattle.net.specs.inner.LinkSet.{value}
use Rattle.net.specs.declared.link_set.LinkSet.{LinkSet}
use Rattle.paths.specs.inner.Column.{BestColumn}
use Rattle.paths.specs.inner.Square.{BestSquare}
use Rattle.paths.specs.declared.cost.Cost.{Cost}
use Rattle.tables.specs.declared.kept.Kept.{Kept}
use Rattle.tables.specs.inner.Detours.{AllKept, SquareKept}
use Rattle.tables.specs.inner.Backward.{OwnByte}

-- counts within the limits, so that the lengths of the tables are numbers that memory holds
pub record WithinLimits (n links : ℕ) : Type 0 where
  pub few_nodes : n ≤ most_nodes
  pub few_links : links ≤ most_links

-- an interface of the network and a node
pub record Asked (R : Rows) (h d : ℕ) : Type 0 where
  pub interface : h < 2 * length R.low
  pub destination : d < R.nodes

-- a table with room for so many rows, and the best paths over all links
pub record Filling (R : Rows) (rows : ℕ) (table : List ℕ) (all : List (List Cost)) : Type 0 where
  pub room : rows * R.nodes ≤ length table
  pub square : BestSquare (network_of R) All all

-- the same of a table with a row for each interface, and what is kept of all links
pub record FillingByKept (R : Rows) (table : List ℕ) (all : List (List Cost)) (kept : List (List Kept)) : Type 0 where
  pub filling : Filling R (2 * length R.low) table all
  pub keeps : SquareKept (network_of R) (length R.low) all kept

-- the same of a backwarding table that is filled as if no interface had key links
pub record LeavingOutAll (R : Rows) (table : List ℕ) (all : List (List Cost)) (kept : List (List Kept)) : Type 0 where
  pub given : FillingByKept R table all kept
  pub own : (h d : ℕ) → h < 2 * length R.low → d < R.nodes → OwnByte (network_of R) h d (get_or table (h * R.nodes + d) 0)

-- the same for one destination
pub record LeavingOut (R : Rows) (d : ℕ) (table : List ℕ) (all : List Cost) (kept : List Kept) : Type 0 where
  pub destination : d < R.nodes
  pub room : 2 * length R.low * R.nodes ≤ length table
  pub column : BestColumn (network_of R) All d all
  pub keeps : AllKept (network_of R) d (length R.low) all kept
  pub own : (h : ℕ) → h < 2 * length R.low → OwnByte (network_of R) h d (get_or table (h * R.nodes + d) 0)

-- an interface with its key links for a node, and the best paths to that node over all links
pub record KeysKnown (R : Rows) (h d : ℕ) (all : List Cost) (keys : LinkSet) : Type 0 where
  pub asked : Asked R h d
  pub column : BestColumn (network_of R) All d all
  pub are : SetOf (length R.low) (KeyLink (network_of R) d h) (value keys)

-- link k, the best paths to d over all links and without it, and what is kept of the links before it
pub record Trying (R : Rows) (d k : ℕ) (all without : List Cost) (kept : List Kept) : Type 0 where
  pub row : k < length R.low
  pub column : BestColumn (network_of R) All d all
  pub column_without : BestColumn (network_of R) (But k) d without
  pub keeps : AllKept (network_of R) d k all kept

-- the same for all destinations
pub record TryingAll (R : Rows) (k : ℕ) (all without : List (List Cost)) (kept : List (List Kept)) : Type 0 where
  pub row : k < length R.low
  pub square : BestSquare (network_of R) All all
  pub square_without : BestSquare (network_of R) (But k) without
  pub keeps : SquareKept (network_of R) k all kept
