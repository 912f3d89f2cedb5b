-- `fill_row` writes the bytes of `entry_row` in order: the whole row of entries is what is written before d and the rest from d on.
use mathlib.Core.Path.{◌≡◌}
use lib.ListN.{length}
use Rattle.tables.specs.inner.EntryRow.{entry_row}
use Rattle.tables.proofs.EntryRows.{written_to}
use Rattle.tables.proofs.entry.fill_row.Given as goal

abbrev pub invariant-loop-d : goal.invariant-loop-d
invariant-loop-d l =
    entry_row (length l.row) l.i.0 0 l.costs ≡ written_to (length l.row) l.i.0 l.costs l.row l.d
