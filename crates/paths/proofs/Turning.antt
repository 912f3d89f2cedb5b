-- A square turned entry by entry, row by row: the rows passed hold what the square has for their nodes, and so does the row at hand up
-- to d. It does not matter what the entries are; `past` is the one that a read past a row's end gives.
use Prim.Native.Nat.{ℕ, ◌+◌, ◌≤◌, ◌<◌}
use mathlib.Core.Path.{◌≡◌, ap, ◌∙◌}
use mathlib.Core.List.{List, []}
use native.Mathlib.Decide.{ℕ_discrete}
use native.Mathlib.Omega.{arith}
use borrow.Author.Count.{below_more}
use lib.ListN.{length, get_or, set, length-set}
use lib.Seq.{get_or-set_same, get_or-set_other}
use Rattle.net.specs.Limits.{most_nodes}
use Rattle.paths.specs.inner.Cost.{no_cost}
use Rattle.paths.specs.inner.Column.{entry_at}
use Rattle.paths.specs.inner.Square.{column_for, cell, IsTurned}
use Rattle.paths.specs.declared.cost.Cost.{Cost}
use Rattle.paths.proofs.Shape.{Shaped}

-- one entry stored, within the shape
module _ {A : Type 0} (turned : List (List A)) (shaped : Shaped turned) (i d : ℕ) (c : A) (node : i < most_nodes) where
  abbrev stored : List (List A)
  stored = set turned i (set (get_or turned i []) d c)

  stored_row : get_or stored i [] ≡ set (get_or turned i []) d c
  stored_row = get_or-set_same turned i _ [] (omega (arith, shaped.rows))

  stored_shaped : Shaped stored
  stored_shaped =
      record {
        rows = length-set turned i _ ∙ shaped.rows;
        row = λ a h. elim (ℕ_discrete a i) [
          | yes e ↦ rw e (ap length stored_row ∙ length-set (get_or turned i []) d c ∙ shaped.row i node)
          | no other ↦ ap length (get_or-set_other turned i a _ [] other) ∙ shaped.row a h
        ];
      }

module _ {A : Type 0} (past : A) where
  -- what row a has at place b
  abbrev entry : List (List A) → ℕ → ℕ → A
  entry square a b = get_or (get_or square a []) b past

  pub record Turned (square : List (List A)) (n i d : ℕ) (turned : List (List A)) : Type 0 where
    pub shaped : Shaped turned
    pub passed : (a b : ℕ) → a < i → b < n → entry turned a b ≡ entry square b a
    pub row : (b : ℕ) → b < d → entry turned i b ≡ entry square b i

  module _ {square : List (List A)} {n : ℕ} where
    pub turned_start : {turned : List (List A)} → Shaped turned → Turned square n 0 0 turned
    turned_start shaped =
        record { shaped = shaped; passed = λ a b h. absurd (omega arith); row = λ b h. absurd (omega arith) }

    module _ {i d : ℕ} {turned : List (List A)} (T : Turned square n i d turned) where
      -- one entry more
      pub turned_more : {c : A} → i < most_nodes → d < most_nodes → c ≡ entry square d i
          → Turned square n i (d + 1) (set turned i (set (get_or turned i []) d c))
      turned_more {c} node destination is =
          let long = T.shaped.row i node in
          let here = stored_row turned T.shaped i d c node in
          record {
            shaped = stored_shaped turned T.shaped i d c node;
            passed = λ a b h l. ap (λ row. get_or row b past) (get_or-set_other turned i a _ [] (λ e. omega arith)) ∙ T.passed a b h l;
            row = below_more _ _
                (λ b h. ap (λ row. get_or row b past) here ∙ get_or-set_other (get_or turned i []) d b c past (λ e. omega arith) ∙ T.row b h)
                (ap (λ row. get_or row d past) here ∙ get_or-set_same (get_or turned i []) d c past (omega arith) ∙ is);
          }

      -- one row more
      pub turned_row : n ≤ d → Turned square n (i + 1) 0 turned
      turned_row full =
          record {
            shaped = T.shaped;
            passed = λ a b h l. elim (ℕ_discrete a i) [
              | yes e ↦ rw e (T.row b (omega arith))
              | no other ↦ T.passed a b (omega arith) l
            ];
            row = λ b h. absurd (omega arith);
          }

-- a square of costs turned: the row of a node has its costs
pub turned_costs : (square turned : List (List Cost)) (n : ℕ) → IsTurned square n turned
    → (i d : ℕ) → i < n → d < n → entry_at (column_for turned i) d ≡ cell square i d
unfolding column_for entry_at
turned_costs square turned n whole = whole no_cost
