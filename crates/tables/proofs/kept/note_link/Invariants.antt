-- `note_link` goes over the destinations: the columns passed hold what is kept with the link tried, the others are as they were.
use Prim.Native.Nat.{ℕ, suc, ◌≤◌, ◌<◌}
use mathlib.Core.Path.{◌≡◌}
use lib.ListN.{length}
use Rattle.net.specs.Lent.{rows_lent}
use Rattle.net.specs.Limits.{most_nodes}
use Rattle.net.specs.Rows.{network_of}
use Rattle.paths.specs.inner.Square.{column_for}
use Rattle.tables.specs.inner.Detours.{kept_for, AllKept}
use Rattle.tables.proofs.kept.note_link.Given as goal

abbrev pub invariant-loop-d : goal.invariant-loop-d
invariant-loop-d l =
    (length l.next ≡ most_nodes) × ((e : ℕ) → l.d ≤ e → kept_for l.next e ≡ kept_for l.initial.next e)
    × ((e : ℕ) → e < l.d → AllKept (network_of (rows_lent l.network.rows)) e (suc l.link.0) (column_for l.all e) (kept_for l.next e))
