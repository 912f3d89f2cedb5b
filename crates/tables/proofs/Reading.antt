-- What the code reads of a column are its entries: a column has a place for each node. So has what is kept of the links tried. `past` is
-- what a read past an array's end would give.
use Prim.Native.Nat.{ℕ, ◌≤◌, ◌<◌}
use mathlib.Core.Path.{◌≡◌}
use mathlib.Core.List.{List}
use native.Mathlib.Omega.{arith}
use lib.ListN.{length, get_or}
use Rattle.net.specs.Limits.{most_nodes}
use Rattle.paths.specs.inner.Column.{entry_at}
use Rattle.paths.specs.declared.cost.Cost.{Cost}
use Rattle.paths.proofs.Shape.{within, read_at}
use Rattle.tables.specs.declared.kept.Kept.{Kept}
use Rattle.tables.specs.inner.Detours.{forward_cost, nothing_kept, kept_at}

-- the entry of a node
pub read_node : {n : ℕ} → n ≤ most_nodes → (past : Cost) (column : List Cost) → length column ≡ most_nodes
    → {i u : ℕ} → i ≡ u → u < n → get_or column i past ≡ entry_at column u
read_node few past column long {u = u} e node = rw e (read_at column u (omega arith) past)

-- what is kept of a node
pub read_kept : (kept : List Kept) (i : ℕ) → i < length kept → (past : Kept) → get_or kept i past ≡ kept_at kept i
unfolding kept_at
read_kept kept i h past = within kept i past nothing_kept h

-- the costs to forward by, read off the costs of a node and what is kept for it
pub forward_read : (h d : ℕ) (whole : List Cost) (kept : List Kept) → d < length whole → d < length kept
    → (past : Cost) (past_kept : Kept) {c : Cost}
    → c ≡ forward_cost h (get_or whole d past) (get_or kept d past_kept) → c ≡ forward_cost h (entry_at whole d) (kept_at kept d)
forward_read h d whole kept in_whole in_kept past past_kept is =
    cc (read_at whole d in_whole past, read_kept kept d in_kept past_kept)
