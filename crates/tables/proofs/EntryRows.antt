-- How a row of entries is written byte by byte: what stands before place d is done, and the rest of the row of entries follows from d
-- on. One more byte moves the seam; at the end nothing is left.
use Prim.Native.Nat.{ℕ, suc, ◌+◌, ◌-◌, ◌≤◌, ◌<◌}
use mathlib.Core.Path.{◌≡◌, refl, sym, ap, ◌∙◌}
use mathlib.Core.List.{List, ◌++◌, append_assoc, append-nil}
use native.Mathlib.Nat.{sub-zero}
use native.Mathlib.Numerals.{add-one}
use native.Mathlib.Omega.{arith}
use lib.ListN.{length, get_or, take, set}
use lib.Seq.{take_all, take-suc-set}
use Rattle.paths.specs.inner.Column.{entry_at}
use Rattle.paths.specs.declared.cost.Cost.{Cost}
use Rattle.paths.proofs.Shape.{read_at}
use Rattle.tables.specs.inner.EntryRow.{entry_byte, entry_row}

module _ (n i : ℕ) (costs : List Cost) (row : List ℕ) where
  -- what a row holds once the first d entries are written
  abbrev pub written_to : ℕ → List ℕ
  written_to d = take d row ++ entry_row (n - d) i d costs

  pub row_begin : entry_row n i 0 costs ≡ written_to 0
  row_begin = rw sub-zero

  pub row_done : (d : ℕ) → length row ≡ n → n ≤ d → written_to d ≡ row
  unfolding entry_row
  row_done d long h =
      let none : n - d ≡ 0 = omega arith in
      rw (none, append-nil) (take_all d row (omega arith))

pub row_on : (n i : ℕ) (costs : List Cost) (row : List ℕ) (d byte : ℕ) (past : Cost)
    → length row ≡ n → d < n → d < length costs → byte ≡ entry_byte i d (get_or costs d past)
    → written_to n i costs row d ≡ written_to n i costs (set row d byte) (d + 1)
unfolding entry_row
row_on n i costs row d byte past long h inside e =
    let more : n - d ≡ suc (n - suc d) = omega arith in
    let is : entry_byte i d (entry_at costs d) ≡ byte =
    sym (e ∙ ap (entry_byte i d) (read_at costs d inside past)) in
    rw (add-one, more, is, take-suc-set row d byte (omega arith), append_assoc) refl
