-- The definitions of the rounds, unfolded once where the code takes one step: one link more that makes offers, a link's two offers, one
-- turn of a round, one round more, one place less to blank. The code counts up to m where a definition counts down what is left, so that
-- m - i is left at i.
use Prim.Native.Nat.{ℕ, suc, ◌+◌, ◌*◌, ◌-◌, ◌≤◌, ◌<◌}
use mathlib.Core.Path.{◌≡◌, refl, sym, ap, ◌∙◌}
use mathlib.Core.Bool.{Bool, true, false, not}
use mathlib.Core.Logic.{◌≢◌, ◌⊎◌, inl, inr}
use mathlib.Core.List.{List, [], ◌++◌}
use Rattle.std.proofs.lemmas.List.{set-append_left}
use native.Mathlib.Nat.{sub-zero}
use native.Mathlib.Omega.{arith}
use lib.ListN.{length, get_or, set, replicate, length-set}
use lib.Seq.{get_or-set_same, get_or-set_other}
use Rattle.net.specs.Limits.{most_nodes}
use Rattle.net.specs.Choice.{pick}
use Rattle.net.specs.Rows.{Rows}
use Rattle.net.specs.inner.LinkSet.{no_links, with_link, has_link, meeting}
use Rattle.net.specs.declared.link_set.LinkSet.{LinkSet}
use Rattle.paths.specs.inner.Cost.{no_cost, before, extended}
use Rattle.paths.specs.inner.Column.{entry_at}
use Rattle.paths.specs.inner.Square.{column_for}
use Rattle.paths.specs.inner.Rounds.{unrevised, revise, offer, link_offers, makes_offers, offering_from, offering_links}
use Rattle.paths.specs.inner.Rounds.{turn_of, round_from, round_of, rounds_from, settled, blank_from, blanked}
use Rattle.paths.specs.declared.cost.Cost.{Cost}
use Rattle.paths.specs.inner.Rounds.{Revised}
use Rattle.paths.proofs.Shape.{read_at}

all_done : (m i : ℕ) → m ≤ i → m - i ≡ 0
all_done m i h = omega arith

one_less : (m i : ℕ) → i < m → m - i ≡ suc (m - (i + 1))
one_less m i h = omega arith

one_more : (i : ℕ) → suc i ≡ i + 1
one_more i = omega arith

-- the links that make offers, those below k looked at, of m in all
module _ (m : ℕ) (low high : List ℕ) (out : LinkSet) (given : List Cost) (k : ℕ) (links : LinkSet) where
  pub offering_done : m ≤ k → offering_from (m - k) low high out given k links ≡ links
  unfolding offering_from
  offering_done h = rw (all_done m k h)

  abbrev chosen : Bool
  chosen = makes_offers out k (entry_at given (get_or low k 0)) (entry_at given (get_or high k 0))

  offering_step : k < m → offering_from (m - k) low high out given k links
      ≡ offering_from (m - (k + 1)) low high out given (k + 1) (pick chosen (with_link links k) links)
  unfolding offering_from
  offering_step h = rw (one_less m k h, ← one_more k)

  -- `past` is what a read past an array's end would give
  pub offering_on : k < m → get_or low k 0 < length given → get_or high k 0 < length given → (past : Cost) → {offers : Bool} {more : LinkSet}
      → offers ≡ makes_offers out k (get_or given (get_or low k 0) past) (get_or given (get_or high k 0) past)
      → ((offers ≡ true) × (more ≡ with_link links k)) ⊎ ((offers ≡ false) × (more ≡ links))
      → offering_from (m - k) low high out given k links ≡ offering_from (m - (k + 1)) low high out given (k + 1) more
  offering_on h low_place high_place past {offers} test came =
      let read : chosen ≡ offers =
      rw (← read_at given (get_or low k 0) low_place past, ← read_at given (get_or high k 0) high_place past) (sym test) in
      elim came [
        | inl w ↦ rw (offering_step h, read, w.0, w.1)
        | inr w ↦ rw (offering_step h, read, w.0, w.1)
      ]

pub offering_begin : (low high : List ℕ) (out : LinkSet) (given : List Cost)
    → offering_links low high out given ≡ offering_from (length low - 0) low high out given 0 no_links
unfolding offering_links
offering_begin low high out given = rw sub-zero

-- a column and whether it was changed, before a place was stored in it if the test held, and after that
pub record Stored (test : Bool) (i : ℕ) (c : Cost) (s t : Revised) : Type 0 where
  pub is : pick test (revise s i c) s ≡ t
  pub as_long : length t.column ≡ length s.column

pub stored : {test : Bool} {i : ℕ} {c : Cost} {column next : List Cost} {changed changed₂ : Bool}
    → ((test ≡ true) × (next ≡ set column i c) × (changed₂ ≡ true)) ⊎ ((test ≡ false) × (next ≡ column) × (changed₂ ≡ changed))
    → Stored test i c (record { column = column; changed = changed }) (record { column = next; changed = changed₂ })
stored {i = i} {c} {column} (inl (e, column_is, changed_is)) =
    record { is = rw (e, column_is, changed_is); as_long = rw column_is (length-set column i c) }
stored (inr (e, column_is, changed_is)) = record { is = rw (e, column_is, changed_is); as_long = ap length column_is }

-- the same where the code goes over the first places alone, with the rest of the column behind them
pub stored_front : {test : Bool} {i : ℕ} {c : Cost} {items next : List Cost} {changed changed₂ : Bool} (rest : List Cost) → i < length items
    → ((test ≡ true) × (next ≡ set items i c) × (changed₂ ≡ true)) ⊎ ((test ≡ false) × (next ≡ items) × (changed₂ ≡ changed))
    → Stored test i c (record { column = items ++ rest; changed = changed }) (record { column = next ++ rest; changed = changed₂ })
stored_front {i = i} {c} {items} rest place (inl (e, is, changed_is)) =
    stored (inl (e, ap (λ (l : List Cost). l ++ rest) is ∙ sym (set-append_left items rest i c place), changed_is))
stored_front rest place (inr (e, is, changed_is)) = stored (inr (e, ap (λ (l : List Cost). l ++ rest) is, changed_is))

-- one offer, as the code makes it
offered : (f k x y weight : ℕ) (s : Revised) → x < length s.column → y < length s.column → (past : Cost)
    → {way : Cost} {better : Bool} {after : Revised}
    → way ≡ extended (get_or s.column y past) weight k f → better ≡ before way (get_or s.column x past)
    → Stored better x way s after → offer f k x y weight s ≡ after
unfolding offer
offered f k x y weight s place from past way_is test step =
    rw (← read_at s.column x place past, ← read_at s.column y from past, ← way_is, ← test) step.is

-- both offers of a link; the second reads what the first left
pub link_offered : (k x y weight : ℕ) (s : Revised) → x < length s.column → y < length s.column → (past : Cost)
    → {to_low to_high : Cost} {low_better high_better : Bool} {between after : Revised}
    → to_low ≡ extended (get_or s.column y past) weight k (2 * k) → low_better ≡ before to_low (get_or s.column x past)
    → Stored low_better x to_low s between
    → to_high ≡ extended (get_or between.column x past) weight k (2 * k + 1)
    → high_better ≡ before to_high (get_or between.column y past)
    → Stored high_better y to_high between after
    → (link_offers k x y weight s ≡ after) × (length after.column ≡ length s.column)
unfolding link_offers
link_offered k x y weight s low_place high_place past {between = between} low_way low_test first high_way high_test second =
    let to_low = offered (2 * k) k x y weight s low_place high_place past low_way low_test first in
    let long = first.as_long in
    let to_high = offered (2 * k + 1) k y x weight between (omega arith) (omega arith) past high_way high_test second in
    (rw to_low to_high, second.as_long ∙ long)

-- the turns of a round, j of them passed
module _ (low high weight : List ℕ) (offering : LinkSet) (upward : Bool) (j : ℕ) (s : Revised) where
  pub round_done : length low ≤ j → round_from (length low - j) low high weight offering upward j s ≡ s
  unfolding round_from
  round_done h = rw (all_done (length low) j h)

  -- whose turn it is, and whether that link makes offers
  module _ (h : j < length low) {k : ℕ} (turn : k ≡ turn_of (length low) upward j) {offers : Bool} (test : offers ≡ has_link offering k) where
    round_step : round_from (length low - j) low high weight offering upward j s
        ≡ round_from (length low - (j + 1)) low high weight offering upward (j + 1)
        (pick offers (link_offers k (get_or low k 0) (get_or high k 0) (get_or weight k 0) s) s)
    unfolding round_from
    round_step = rw (test, turn, one_less (length low) j h, ← one_more j)

    pub round_skip : offers ≡ false → round_from (length low - j) low high weight offering upward j s
        ≡ round_from (length low - (j + 1)) low high weight offering upward (j + 1) s
    round_skip e = rw (round_step, e)

    pub round_on : offers ≡ true → (next : Revised) → link_offers k (get_or low k 0) (get_or high k 0) (get_or weight k 0) s ≡ next
        → round_from (length low - j) low high weight offering upward j s
        ≡ round_from (length low - (j + 1)) low high weight offering upward (j + 1) next
    round_on e next is = rw (round_step, e, is)

pub round_begin : (low high weight : List ℕ) (offering : LinkSet) (upward : Bool) (column : List Cost)
    → round_of low high weight offering upward column
    ≡ round_from (length low - 0) low high weight offering upward 0 (unrevised column)
unfolding round_of
round_begin low high weight offering upward column = rw sub-zero

-- the rounds from r on; n - 1 are enough, so that the first is round 1
pub rounds_begin : (R : Rows) (out : LinkSet) (given : List Cost) {offering : LinkSet}
    → offering ≡ offering_links R.low R.high out given → settled R out given ≡ rounds_from (R.nodes - 1) R offering true given
unfolding settled
rounds_begin R out given e = rw (← e)

module _ (R : Rows) (offering : LinkSet) (upward : Bool) (r : ℕ) (column : List Cost) where
  pub rounds_done : R.nodes ≤ r → rounds_from (R.nodes - r) R offering upward column ≡ column
  unfolding rounds_from
  rounds_done h = rw (all_done R.nodes r h)

  module _ (h : r < R.nodes) {one : Revised} (round : one ≡ round_of R.low R.high R.weight offering upward column) where
    rounds_step : rounds_from (R.nodes - r) R offering upward column
        ≡ pick one.changed (rounds_from (R.nodes - (r + 1)) R offering (not upward) one.column) one.column
    unfolding rounds_from
    rounds_step = rw (one_less R.nodes r h, ← round)

    pub rounds_still : one.changed ≡ false → rounds_from (R.nodes - r) R offering upward column ≡ one.column
    rounds_still e = rw (rounds_step, e)

    pub rounds_on : one.changed ≡ true → rounds_from (R.nodes - r) R offering upward column
        ≡ rounds_from (R.nodes - (r + 1)) R offering (not upward) one.column
    rounds_on e = rw (rounds_step, e)

-- the places from i on, of n
pub blank_begin : (n : ℕ) (out : LinkSet) (column : List Cost) → blanked n out column ≡ blank_from (n - 0) out 0 (unrevised column)
unfolding blanked
blank_begin n out column = rw sub-zero

module _ (n : ℕ) (out : LinkSet) (i : ℕ) (s : Revised) where
  pub blank_done : n ≤ i → blank_from (n - i) out i s ≡ s
  unfolding blank_from
  blank_done h = rw (all_done n i h)

  blank_step : i < n → blank_from (n - i) out i s
      ≡ blank_from (n - (i + 1)) out (i + 1) (pick (meeting (entry_at s.column i).links out) (revise s i no_cost) s)
  unfolding blank_from
  blank_step h = rw (one_less n i h, ← one_more i)

  pub blank_on : i < n → i < length s.column → (past : Cost) → {meets : Bool} {next : Revised}
      → meets ≡ meeting (get_or s.column i past).links out → Stored meets i no_cost s next
      → blank_from (n - i) out i s ≡ blank_from (n - (i + 1)) out (i + 1) next
  blank_on h place past test step = rw (blank_step h, ← read_at s.column i place past, ← test, step.is)

-- one column in every place of a square
pub column_first : (column : List Cost) → column_for (replicate most_nodes column) 0 ≡ column
unfolding column_for
column_first column = refl

-- one column of a square replaced
module _ (square : List (List Cost)) (d : ℕ) (column : List Cost) where
  pub column_replaced : d < length square → column_for (set square d column) d ≡ column
  unfolding column_for
  column_replaced h = get_or-set_same square d column [] h

  pub column_kept : (e : ℕ) → e ≢ d → column_for (set square d column) e ≡ column_for square e
  unfolding column_for
  column_kept e other = get_or-set_other square d e column [] other
