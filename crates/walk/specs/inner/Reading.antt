-- What the byte of an entry finds, how a row is checked, and what is known after all checks.
use Rattle.std.specs.Prelude.{ℕ, ◌<◌, Bool, ◌≡◌, List, length, get_or, Option, Some, None}
use Rattle.graph.specs.Entries.{Hop, here, onward, nowhere}
use Rattle.net.specs.Lent.{rows_lent}
use Rattle.net.specs.Rows.{Rows, head_of}
use Rattle.net.specs.Check.{Accepted}
use Rattle.net.specs.declared.interface.Interface.{Interface}
use Rattle.net.specs.declared.interface.Node.{Node}
use Rattle.tables.specs.Lent.{LentTables, LongEnough, tables_lent}
use Rattle.walk.specs.Lent.{all_below, byte_passes}
use Rattle.walk.specs.declared.checked.CheckedTables.{CheckedTables}

-- an entry's answer: the next node with the interface that leads there, or nothing to follow
unfoldable pub found_by : List ℕ → List ℕ → Hop → Option (Node × Interface)
found_by low high here = None
found_by low high nowhere = None
found_by low high (onward f) = Some (record { 0 = head_of low high f }, record { 0 = f })

-- the check of one row of deciding node i
unfoldable pub row_passes : List ℕ → List ℕ → ℕ → List ℕ → Bool
row_passes low high i row = all_below (length row) (λ d. byte_passes low high i d (get_or row d 0))

-- the node that is answered for each of so many rows is the deciding one
abbrev pub Decides : (ℕ → Node → Type 0) → ℕ → (ℕ → ℕ) → Type 0
Decides answers rows deciding = (row : ℕ) (node : Node) → row < rows → answers row node → node.0 ≡ deciding row

-- checked tables, as the definitions speak of network and tables
abbrev pub rows_checked : CheckedTables → Rows
rows_checked checked = rows_lent checked.network.rows

abbrev pub tables_checked : CheckedTables → LentTables
tables_checked checked = tables_lent checked.tables

-- what is known after all checks
pub record Ready (R : Rows) (T : LentTables) : Type 0 where
  pub network : Accepted R
  pub long : LongEnough R.nodes (length R.low) T
