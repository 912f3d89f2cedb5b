-- The look-up of an interface's row: what each test means after those before it, and that an accepted row lies wholly in the table.
-- The code asks for the interface's number below the count of whole rows, since the row's place may be too large for a number in
-- memory; the definition asks for the row's end within the table. The two are the same for one byte a row or more.
use Prim.Native.Nat.{ℕ, suc, ◌+◌, ◌*◌, ◌-◌, ◌/◌, ◌≤◌, ◌<◌}
use mathlib.Core.Bool.{Bool, true, false, false≢true}
use mathlib.Core.Path.{◌≡◌, refl, sym, ◌∙◌}
use mathlib.Core.Logic.{◌≢◌, ◌↔◌}
use mathlib.Core.List.{List, []}
use native.Mathlib.Nat.{div-lt_iff_lt-mul, suc-mul}
use native.Mathlib.Decide.{ℕ_discrete, dec_lt}
use native.Mathlib.Omega.{arith}
use borrow.Author.Tests.{lt-ltb, le-ltb, ltb-false, eq-eqb, ne_eqb}
use lib.ListN.{length, take, drop}
use Rattle.net.specs.Refusals.{accepted, node_count, interface_number}
use Rattle.net.specs.Choice.{pick}
use Rattle.net.specs.Check.{bad_node_count}
use Rattle.net.proofs.Faults.{no_nodes}
use Rattle.net.proofs.Told.{number_refuses}
use Rattle.tables.specs.Row.{row_check, row_of}

-- a number not below the count of whole rows is that of a row that ends past the table's end
past_end : (long n i : ℕ) → 0 < n → (long / n ≤ i) ↔ (long < i * n + n)
past_end long n i some =
    let law = div-lt_iff_lt-mul {k = n} {x = long} {y = suc i} some in
    (λ h. omega (arith, law.0 (omega arith), suc-mul i n), λ h. omega (arith, law.1 (omega (arith, suc-mul i n))))

-- of three answers of which two are refusals
both_passed : (first second : Bool) → pick first node_count (pick second interface_number accepted) ≡ accepted → second ≡ false
both_passed true second e = absurd (omega arith)
both_passed false true e = absurd (omega arith)
both_passed false false e = refl

module _ (table : List ℕ) (n i : ℕ) where
  pub row_nodes_refused : bad_node_count n ≡ true → row_check table n i ≡ node_count
  unfolding row_check
  row_nodes_refused bad = simp bad

  module _ (good : bad_node_count n ≡ false) where
    -- a node count that passes is not 0, so that it divides
    pub some_node : 0 < n
    some_node =
        elim (ℕ_discrete n 0) [ yes e ↦ absurd (false≢true (sym good ∙ no_nodes n e)) | no some ↦ omega arith ]

    pub row_past : length table / n ≤ i → row_check table n i ≡ interface_number
    unfolding row_check
    row_past past = simp (good, lt-ltb (length table) (i * n + n) ((past_end _ n i some_node).0 past))

    pub row_inside : i < length table / n → row_check table n i ≡ accepted
    unfolding row_check
    row_inside inside =
        let end : i * n + n ≤ length table =
        elim (dec_lt (length table) (i * n + n)) [
          | yes past ↦ absurd (omega (arith, (past_end (length table) n i some_node).1 past))
          | no h ↦ omega arith
        ] in
        simp (good, le-ltb (length table) (i * n + n) end)

  -- an accepted row ends within the table
  pub row_end : row_check table n i ≡ accepted → i * n + n ≤ length table
  unfolding row_check
  row_end e = ltb-false (length table) (i * n + n) (both_passed (bad_node_count n) _ e)

  pub row_refused : row_check table n i ≢ accepted → row_of table n i ≡ []
  unfolding row_of
  row_refused refused = simp (ne_eqb _ _ refused)

  -- the row as the part from its start to its end
  pub row_found : row_check table n i ≡ accepted → take (i * n + n - i * n) (drop (i * n) table) ≡ row_of table n i
  unfolding row_of
  row_found e =
      let width : i * n + n - i * n ≡ n = omega arith in
      rw (width, eq-eqb _ _ e)

-- what the code's check of a look-up needs, and its part of the table
pub ruleset row_tests = (row_nodes_refused, some_node, row_past, row_inside)

pub ruleset row_parts = (row_end, row_refused, row_found, number_refuses)
