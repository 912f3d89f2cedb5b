-- One row of a table, filled in its place. The rows of a table that is long enough end within it, so that no product of a row's number
-- and the node count is more than the table's length.
use Prim.Native.Nat.{ℕ, suc, ◌+◌, ◌*◌, ◌-◌, ◌≤◌, ◌<◌}
use mathlib.Core.Path.{◌≡◌, ◌∙◌}
use mathlib.Core.List.{List}
use native.Mathlib.Nat.{suc-mul, mul-le-mul_right}
use native.Mathlib.Numerals.{add-one}
use native.Mathlib.Omega.{arith}
use borrow.Rule.Slice.PartMut.{put_mid, Post-is}
use lib.ListN.{length, get_or, take, drop, length-drop}
use lib.Seq.{length-take-le}
use Rattle.paths.specs.declared.cost.Cost.{Cost}
use Rattle.tables.specs.Entry.{Filled}
use Rattle.tables.specs.inner.EntryRow.{entry_row}
use Rattle.tables.proofs.Filling.{filled_more, entry_row_length}

-- where the next row starts
pub next_row : (rows n : ℕ) → rows * n + n ≡ (rows + 1) * n
next_row rows n = rw add-one (omega (arith, suc-mul rows n))

-- where a row ends
pub row_room : {rows room : ℕ} (n row : ℕ) → row < rows → rows * n ≤ room → row * n + n ≤ room
row_room {rows} n row below whole = omega (arith, suc-mul row n, mul-le-mul_right {m = suc row} {n = rows} n below)

-- the part that is a row has a byte for each destination
pub part_width : {n rows : ℕ} (from : ℕ) {Byte : ℕ → ℕ → ℕ → Type 0} {before after : List ℕ} → Filled n rows Byte before after
    → from + n ≤ length before → length (take (from + n - from) (drop from after)) ≡ n
part_width {n} from {after = after} F room =
    length-take-le (from + n - from) (drop from after) (rw (length-drop from after) (omega (arith, F.same_length))) ∙ omega arith

-- The part from the row's place on, filled by the costs of node i, is one row more. The code names the part by its two ends.
pub filled_row : {n rows : ℕ} {Byte : ℕ → ℕ → ℕ → Type 0} {before after : List ℕ} → Filled n rows Byte before after
    → {from : ℕ} → from ≡ rows * n → from + n ≤ length before → (i : ℕ) (costs : List Cost)
    → ((d : ℕ) → d < n → Byte rows d (get_or (entry_row n i 0 costs) d 0))
    → {row : List ℕ} → row ≡ entry_row (length (take (from + n - from) (drop from after))) i 0 costs
    → Filled n (rows + 1) Byte before (put_mid from (from + n - from) after row)
filled_row {n} {rows} {after = after} F {from} place room i costs right is =
    rw (is, part_width from F room, place, add-one rows, Post-is (rows * n) (rows * n + n) after (omega arith))
    (filled_more F (omega (arith, suc-mul rows n)) (entry_row n i 0 costs) (entry_row_length i costs n 0) right)
