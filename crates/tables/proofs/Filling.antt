-- Filling a table row by row. With `rows` rows filled, the next row put in its place leaves the rows before it and the bytes beyond it;
-- and the filled rows with the bytes beyond them determine the table. A row has a byte for each destination.
use Prim.Native.Nat.{ℕ, zero, suc, ◌+◌, ◌*◌, ◌-◌, ◌/◌, ◌%◌, ◌≤◌, ◌<◌}
use mathlib.Core.Path.{◌≡◌, refl, sym, ap, ◌∙◌}
use mathlib.Core.List.{List, ◌++◌, append_assoc}
use native.Mathlib.Nat.{suc-mul, mul-le-mul_right, div-add-mod', div-lt_iff_lt-mul, mod-lt, add-zero, zero-add}
use native.Mathlib.Decide.{ℕ_discrete, dec_lt}
use native.Mathlib.Omega.{arith}
use lib.ListN.{length, get_or, take, drop, length-append, length-drop, get_or-append}
use lib.Seq.{length-take-le, get_or-take, get_or-drop, get_or-append-add, drop_at, drop-drop, ext_get_or}
use Rattle.paths.specs.inner.Column.{entry_at}
use Rattle.paths.specs.declared.cost.Cost.{Cost}
use Rattle.tables.specs.Entry.{Filled}
use Rattle.tables.specs.inner.EntryRow.{entry_byte, entry_row}

module _ {n : ℕ} {Byte : ℕ → ℕ → ℕ → Type 0} where
  pub filled_start : (table : List ℕ) → Filled n 0 Byte table table
  filled_start table = record { same_length = refl; bytes = λ row d h. absurd (omega arith); beyond = refl }

  -- one row more
  module _ {rows : ℕ} {before after : List ℕ} (F : Filled n rows Byte before after) (room : suc rows * n ≤ length before)
      (row : List ℕ) (whole : length row ≡ n) (right : (d : ℕ) → d < n → Byte rows d (get_or row d 0)) where
    front_length : length (take (rows * n) after) ≡ rows * n
    front_length = length-take-le (rows * n) after (omega (arith, F.same_length, suc-mul rows n))

    pub filled_more : Filled n (suc rows) Byte before (take (rows * n) after ++ (row ++ drop (rows * n + n) after))
    filled_more = record {
      same_length = simp (length-append, length-drop) (omega (arith, front_length, F.same_length, suc-mul rows n));
      bytes = λ r d below inside. elim (ℕ_discrete r rows) [
        | yes e ↦ rw (ap (λ x. x * n) e) (rw e (own d inside))
        | no other ↦ earlier r d (omega arith) inside
      ];
      beyond = rw (suc-mul rows n, ← append_assoc (take (rows * n) after) row (drop (rows * n + n) after))
          (drop_at (take (rows * n) after ++ row) (drop (rows * n + n) after) (rows * n + n)
          (simp length-append (omega (arith, front_length)))
          ∙ sym (drop-drop n (rows * n) after) ∙ ap (drop n) F.beyond ∙ drop-drop n (rows * n) before);
    }
      where
        own : (d : ℕ) → d < n → Byte rows d (get_or (take (rows * n) after ++ (row ++ drop (rows * n + n) after)) (rows * n + d) 0)
        own d inside =
            let place : rows * n + d ≡ length (take (rows * n) after) + d = omega (arith, front_length) in
            rw (
              place,
              get_or-append-add (take (rows * n) after) (row ++ drop (rows * n + n) after) d 0,
              get_or-append row (drop (rows * n + n) after) 0 d (omega arith),
            ) (right d inside)

        earlier : (r d : ℕ) → r < rows → d < n
            → Byte r d (get_or (take (rows * n) after ++ (row ++ drop (rows * n + n) after)) (r * n + d) 0)
        earlier r d below inside =
            let place : r * n + d < rows * n = omega (arith, suc-mul r n, mul-le-mul_right {m = suc r} {n = rows} n below) in
            rw (
              get_or-append (take (rows * n) after) (row ++ drop (rows * n + n) after) 0 (r * n + d) (omega (arith, front_length)),
              get_or-take (rows * n) after (r * n + d) 0 place,
            ) (F.bytes r d below inside)

  -- a second pass over the same rows decides their bytes
  pub filled_again : {rows : ℕ} {A : ℕ → ℕ → ℕ → Type 0} {before between after : List ℕ} → Filled n rows A before between
      → Filled n rows Byte between after → Filled n rows Byte before after
  filled_again F G =
      record { same_length = G.same_length ∙ F.same_length; bytes = G.bytes; beyond = G.beyond ∙ F.beyond }

  -- tables filled with bytes that are determined are equal
  pub filled_one : {rows : ℕ} {before x y : List ℕ}
      → ((row d a b : ℕ) → row < rows → d < n → Byte row d a → Byte row d b → a ≡ b)
      → Filled n rows Byte before x → Filled n rows Byte before y → x ≡ y
  filled_one {rows} {before} {x} {y} one F G =
      ext_get_or 0 x y (F.same_length ∙ sym G.same_length)
      (λ i h. elim (dec_lt i (rows * n)) [ yes inside ↦ in_rows i inside | no outside ↦ past_rows i (omega arith) ])
    where
      in_rows : (i : ℕ) → i < rows * n → get_or x i 0 ≡ get_or y i 0
      in_rows i inside =
          elim (ℕ_discrete n 0) [
            | yes e ↦ absurd (omega (arith, rw e at inside))
            | no some ↦
                let place = div-add-mod' i n in
                let row : i / n < rows = (div-lt_iff_lt-mul {k = n} {x = i} {y = rows} (omega arith)).1 inside in
                let column : i % n < n = mod-lt i (omega arith) in
                let same = one (i / n) (i % n) _ _ row column (F.bytes (i / n) (i % n) row column) (G.bytes (i / n) (i % n) row column) in
                rw place at same
          ]

      past_rows : (i : ℕ) → rows * n ≤ i → get_or x i 0 ≡ get_or y i 0
      past_rows i outside =
          let place : i ≡ rows * n + (i - rows * n) = omega arith in
          let same : get_or (drop (rows * n) x) (i - rows * n) 0 ≡ get_or (drop (rows * n) y) (i - rows * n) 0 = rw (F.beyond, G.beyond) in
          rw place (rw (get_or-drop (rows * n) x (i - rows * n) 0, get_or-drop (rows * n) y (i - rows * n) 0) at same)

-- the row of node i, as long as asked, with the byte of each destination in its place
module _ (i : ℕ) (costs : List Cost) where
  pub entry_row_length : (left d : ℕ) → length (entry_row left i d costs) ≡ left
  unfolding entry_row
  entry_row_length zero d = refl
  entry_row_length (suc left) d = ap suc (entry_row_length left (suc d))

  entry_row_from : (left d e : ℕ) → e < left
      → get_or (entry_row left i d costs) e 0 ≡ entry_byte i (d + e) (entry_at costs (d + e))
  unfolding entry_row
  entry_row_from zero d e h = absurd (omega arith)
  entry_row_from (suc left) d zero h = rw (add-zero d)
  entry_row_from (suc left) d (suc e) h =
      let place : suc d + e ≡ d + suc e = omega arith in
      rw (← place) (entry_row_from left (suc d) e (omega arith))

  pub entry_row_at : {n d : ℕ} → d < n → get_or (entry_row n i 0 costs) d 0 ≡ entry_byte i d (entry_at costs d)
  entry_row_at {n} {d} h = rw (zero-add d) at (entry_row_from n 0 d h)
