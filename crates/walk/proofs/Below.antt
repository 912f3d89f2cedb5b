-- A test that holds of every number below a count, as a loop makes it: one number more, and the first at which it fails. With it the rows
-- of a table: each is wholly in a table that is long enough, and the check goes row by row, byte by byte; and the three tables, one after
-- the other.
use Prim.Native.Nat.{ℕ, zero, suc, ◌+◌, ◌*◌, ◌-◌, ◌<◌, ◌≤◌}
use mathlib.Core.Bool.{Bool, true, false}
use mathlib.Core.Path.{◌≡◌, refl, sym, ap₂, ◌∙◌}
use mathlib.Core.List.{List}
use native.Mathlib.Nat.{mul-le-mul_right}
use native.Mathlib.Numerals.{add-one, add-one-le}
use native.Mathlib.Decide.{ℕ_discrete}
use native.Mathlib.Omega.{arith}
use lib.ListN.{length, get_or, take, drop, length-drop}
use lib.Seq.{get_or-take, get_or-drop, length-take-le}
use Rattle.net.specs.Choice.{both}
use Rattle.net.specs.Rows.{Rows, tail_of, head_of}
use Rattle.tables.specs.Lent.{LentTables, LongEnough}
use Rattle.walk.specs.Lent.{all_below, byte_passes, table_passes, tables_pass}
use Rattle.walk.specs.inner.Reading.{row_passes}
use Rattle.walk.proofs.Hops.{Paired}

both_false : (b : Bool) → both b false ≡ false
both_false true = refl
both_false false = refl

module _ (test : ℕ → Bool) where
  pub below_none : all_below 0 test ≡ true
  unfolding all_below
  below_none = refl

  pub below_one_more : (k : ℕ) → all_below k test ≡ true → test k ≡ true → all_below (k + 1) test ≡ true
  unfolding all_below
  below_one_more k below e = rw add-one (simp (below, e))

  pub below_fails : (count k : ℕ) → k < count → test k ≡ false → all_below count test ≡ false
  unfolding all_below
  below_fails zero k h e = absurd (omega arith)
  below_fails (suc count) k h e =
      elim (ℕ_discrete k count) [
        | yes same ↦ let last : test count ≡ false = rw same at e in rw last (both_false (all_below count test))
        | no other ↦ rw (below_fails count k (omega arith) e)
      ]

  pub below_all : (count k : ℕ) → k ≤ count → count ≤ k → all_below k test ≡ true → all_below count test ≡ true
  below_all count k h l e = let same : k ≡ count = omega arith in rw same at e

-- a row of n bytes below the count is wholly in a table that has that many rows
pub row_within : (n rows row size : ℕ) → row < rows → rows * n ≤ size → row * n + n ≤ size
row_within n rows row size h long = omega (arith, mul-le-mul_right n (add-one-le h))

-- the bytes of a row and the rows of a table, each row lent as a part of its table
abbrev pub byte_test : List ℕ → List ℕ → ℕ → List ℕ → ℕ → Bool
byte_test low high i row d = byte_passes low high i d (get_or row d 0)

abbrev pub row_test : ℕ → List ℕ → List ℕ → (ℕ → ℕ) → List ℕ → ℕ → Bool
row_test n low high deciding table row = row_passes low high (deciding row) (take n (drop (row * n) table))

-- the rows below a number have passed
abbrev pub RowsPassed : ℕ → List ℕ → List ℕ → (ℕ → ℕ) → List ℕ → ℕ → Type 0
RowsPassed n low high deciding table row = all_below row (row_test n low high deciding table) ≡ true

all_same : (count : ℕ) (one other : ℕ → Bool) → ((k : ℕ) → k < count → one k ≡ other k) → all_below count one ≡ all_below count other
unfolding all_below
all_same zero one other same = refl
all_same (suc count) one other same = ap₂ both (all_same count one other (λ k h. same k (omega arith))) (same count (omega arith))

module _ (low high : List ℕ) where
  pub row_is : (i : ℕ) (row : List ℕ) → row_passes low high i row ≡ all_below (length row) (byte_test low high i row)
  unfolding row_passes
  row_is i row = refl

  module _ (n : ℕ) (deciding : ℕ → ℕ) (table : List ℕ) where
    pub table_is : (rows : ℕ) → rows * n ≤ length table
        → table_passes n low high rows deciding table ≡ all_below rows (row_test n low high deciding table)
    unfolding table_passes row_passes
    table_is rows long =
        all_same rows _ _ λ row h.
        let fits : row * n + n ≤ length table = row_within n rows row (length table) h long in
        let row_length : length (take n (drop (row * n) table)) ≡ n =
        length-take-le n (drop (row * n) table) (simp length-drop (omega arith)) in
        rw row_length (all_same n _ _ λ d d_below.
        rw (get_or-take n (drop (row * n) table) d 0 d_below, get_or-drop (row * n) table d 0))

    -- what the code says of a row, lent as a part of its table
    pub row_as_part : (row i : ℕ) {r : Bool} → i ≡ deciding row
        → r ≡ row_passes low high i (take (row * n + n - row * n) (drop (row * n) table))
        → row_test n low high deciding table row ≡ r
    row_as_part row i same e =
        let size : row * n + n - row * n ≡ n = omega arith in
        sym (rw (same, size) at e)

    -- the rows passed: none yet, one row more, the first that fails, and all
    pub no_rows : RowsPassed n low high deciding table 0
    no_rows = below_none _

    module _ (row i : ℕ) {answer : Bool} (decides : i ≡ deciding row)
        (told : answer ≡ row_passes low high i (take (row * n + n - row * n) (drop (row * n) table))) (rows : ℕ) (h : row < rows) where
      pub row_more : answer ≡ true → RowsPassed n low high deciding table row → RowsPassed n low high deciding table (row + 1)
      row_more e passed = below_one_more _ row passed (row_as_part row i decides told ∙ e)

      pub row_fails : answer ≡ false → rows * n ≤ length table → false ≡ table_passes n low high rows deciding table
      row_fails e long = sym (table_is rows long ∙ below_fails _ rows row h (row_as_part row i decides told ∙ e))

    pub all_rows : (rows row : ℕ) → row ≤ rows → rows ≤ row → RowsPassed n low high deciding table row → rows * n ≤ length table
        → true ≡ table_passes n low high rows deciding table
    all_rows rows row within end passed long = sym (table_is rows long ∙ below_all _ rows row within end passed)

-- what is known where a table is checked, and where all three are
pub record Checking (R : Rows) (rows : ℕ) (table : List ℕ) : Type 0 where
  pub paired : Paired R.low R.high
  pub room : rows * R.nodes ≤ length table

pub record CheckingAll (R : Rows) (T : LentTables) : Type 0 where
  pub paired : Paired R.low R.high
  pub long : LongEnough R.nodes (length R.low) T

-- the three tables: what is known of each, and what the answers come to in the order of the code
module _ (R : Rows) (T : LentTables) where
  open R use {nodes as n, low, high}

  module _ (all : CheckingAll R T) where
    pub routes_ready : Checking R n T.routing
    routes_ready = record { paired = all.paired; room = all.long.for_routing }

    pub forwards_ready : Checking R (2 * length low) T.forwarding
    forwards_ready = record { paired = all.paired; room = all.long.for_forwarding }

    pub backwards_ready : Checking R (2 * length low) T.backwarding
    backwards_ready = record { paired = all.paired; room = all.long.for_backwarding }

  module _ {routes : Bool} (routes_told : routes ≡ table_passes n low high n (λ i. i) T.routing) where
    pub routes_fail : routes ≡ false → false ≡ tables_pass n low high T
    unfolding tables_pass
    routes_fail e = sym (simp (← routes_told, e))

    module _ (pass : routes ≡ true) {forwards : Bool}
        (forwards_told : forwards ≡ table_passes n low high (2 * length low) (head_of low high) T.forwarding) where
      pub forwards_fail : forwards ≡ false → false ≡ tables_pass n low high T
      unfolding tables_pass
      forwards_fail e = sym (simp (← routes_told, pass, ← forwards_told, e))

      pub backwards_decide : {backwards : Bool} → forwards ≡ true
          → backwards ≡ table_passes n low high (2 * length low) (tail_of low high) T.backwarding → backwards ≡ tables_pass n low high T
      unfolding tables_pass
      backwards_decide e backwards_told = sym (simp (← routes_told, pass, ← forwards_told, e, ← backwards_told))
