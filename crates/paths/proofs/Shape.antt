-- A column and a square in memory have their shape by their types: an array has the length that its type says, and so has each array in
-- it. And within the shape it does not matter what a read past an array's end would give.
use Prim.Native.Nat.{ℕ, zero, suc, ◌<◌}
use mathlib.Core.Path.{◌≡◌, refl}
use mathlib.Core.List.{List, [], ◌∷◌}
use native.Mathlib.Omega.{arith}
use base.Fml.{Fml}
use denote.Array.{each, in_array}
use denote.Shadow.{shadow}
use lib.ListN.{length, get_or}
use mir.Val.{Val}
use Rattle.net.specs.Limits.{most_nodes}
use Rattle.paths.specs.inner.Cost.{no_cost}
use Rattle.paths.specs.inner.Column.{entry_at}
use Rattle.paths.specs.declared.cost.Cost.{Cost}

-- what owning an array of arrays tells of the lengths of its rows
pub rows_of : {A : Type 0} (own : A → List Val → Fml) (n : ℕ) (rows : List (List A)) (values : List Val)
    → shadow (each (List A) (in_array A own n) rows values) → (i : ℕ) → i < length rows → length (get_or rows i []) ≡ n
rows_of own n [] values owned i h = absurd (omega arith)
rows_of own n (row ∷ rows) [] owned i h = absurd owned
rows_of own n (row ∷ rows) (value ∷ values) owned zero h = owned.0.1.0.1
rows_of own n (row ∷ rows) (value ∷ values) owned (suc i) h = rows_of own n rows values owned.1 i (omega arith)

-- a column for each destination there may be, with a place for each node; in memory each column is one row of the square
pub record Shaped {A : Type 0} (square : List (List A)) : Type 0 where
  pub rows : length square ≡ most_nodes
  pub row : (d : ℕ) → d < most_nodes → length (get_or square d []) ≡ most_nodes

pub array_shaped : {A : Type 0} (own : A → List Val → Fml) (square : List (List A)) (values : List Val) → length square ≡ most_nodes
    → shadow (each (List A) (in_array A own most_nodes) square values) → Shaped square
array_shaped own square values long owned =
    record { rows = long; row = λ d h. rows_of own most_nodes square values owned d (omega arith) }

-- within a list, any element may stand for what lies past its end
pub within : {A : Type 0} (l : List A) (i : ℕ) (a b : A) → i < length l → get_or l i a ≡ get_or l i b
within [] i a b h = absurd (omega arith)
within (x ∷ l) zero a b h = refl
within (x ∷ l) (suc i) a b h = within l i a b (omega arith)

-- what the code reads at a place of a column is the entry there
pub read_at : (column : List Cost) (i : ℕ) → i < length column → (past : Cost) → get_or column i past ≡ entry_at column i
unfolding entry_at
read_at column i h past = within column i past no_cost h
