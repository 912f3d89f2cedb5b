-- What the passes over a column do to it, place by place. Each pass replaces the cost of one place after another, or leaves it; so it
-- keeps the column's length, and a pass that says that it changed nothing has left all as it was. An offer replaces the cost of its
-- interface's tail by a better way. The blanking looks at each place once, and what it does there depends on that place alone. Which
-- links make offers is asked once for each, before the rounds: the set then tells it of every link.
use Prim.Native.Nat.{ℕ, zero, suc, ◌+◌, ◌*◌, ◌-◌, ◌≤◌, ◌<◌}
use mathlib.Core.Bool.{Bool, true, false, not}
use mathlib.Core.Path.{◌≡◌, refl, sym, ap, ◌∙◌}
use mathlib.Core.Logic.{◌≢◌, ◌⊎◌, inl, inr}
use mathlib.Core.List.{List}
use mathlib.Mathlib.Data.Bool.Basic.{eq-true_of_not-eq-false}
use native.Mathlib.Decide.{ℕ_discrete}
use native.Mathlib.Omega.{arith}
use lib.ListN.{length, get_or, set, replicate, length-set, length-replicate}
use lib.Seq.{get_or-set_same, get_or-set_other}
use Rattle.std.specs.Prelude.{Some, None}
use Rattle.graph.specs.Network.{Network, link, tail, head}
use Rattle.net.specs.Limits.{most_nodes}
use Rattle.net.specs.Choice.{pick}
use Rattle.net.specs.Rows.{Rows}
use Rattle.net.specs.inner.LinkSet.{with_link, has_link, meeting, Without}
use Rattle.net.specs.declared.link_set.LinkSet.{LinkSet}
use Rattle.net.proofs.LinkSets.{without?, without_none, without_with}
use Rattle.paths.specs.inner.Cost.{no_cost, here_cost, before, extended}
use Rattle.paths.specs.inner.Column.{entry_at}
use Rattle.paths.specs.inner.Rounds.{Revised, revised_told, unrevised, revise, start_column, offer, link_offers, makes_offers, offering_from, offering_links}
use Rattle.paths.specs.inner.Rounds.{turn_of, round_from, round_of, rounds_from, settled, blank_from, blanked}
use Rattle.paths.specs.declared.cost.Cost.{Cost}
use Rattle.paths.proofs.Offers.{Offered}

-- one place replaced
module _ (column : List Cost) (i : ℕ) (c : Cost) where
  set_here : i < length column → entry_at (set column i c) i ≡ c
  unfolding entry_at
  set_here h = get_or-set_same column i c no_cost h

  set_elsewhere : (j : ℕ) → j ≢ i → entry_at (set column i c) j ≡ entry_at column j
  unfolding entry_at
  set_elsewhere j other = get_or-set_other column i j c no_cost other

-- what holds of every pass that has come from s to t
pub record Kept (s t : Revised) : Type 0 where
  pub long : length t.column ≡ length s.column
  pub still : t.changed ≡ false → t ≡ s

kept_same : (s : Revised) → Kept s s
kept_same s = record { long = refl; still = λ e. refl }

kept_twice : {s t u : Revised} → Kept s t → Kept t u → Kept s u
kept_twice {s} {t} {u} a b = record { long = b.long ∙ a.long; still = still }
  where
    still : u.changed ≡ false → u ≡ s
    still e = let same = b.still e in same ∙ a.still (ap (λ (r : Revised). r.changed) (sym same) ∙ e)

-- what a pass answers that began with this column, by whether it changed a cost
module _ {column next : List Cost} {changed : Bool} {s : Revised} (kept : Kept (unrevised column) s)
    (is : s ≡ record { column = next; changed = changed }) where
  pub told_changed : changed ≡ true → revised_told column (Some next) ≡ s
  told_changed e = rw (is, e)

  pub told_still : changed ≡ false → revised_told column None ≡ s
  told_still e = sym (kept.still (ap (λ (r : Revised). r.changed) is ∙ e))

-- one place replaced, or not
module _ (s : Revised) (i : ℕ) (c : Cost) where
  revised_kept : (test : Bool) → Kept s (pick test (revise s i c) s)
  revised_kept true = record { long = length-set s.column i c; still = λ e. absurd (let z : ◌≡◌ {A = ℕ} 0 1 = cc in omega arith) }
  revised_kept false = kept_same s

  revised_here : (test : Bool) → i < length s.column
      → entry_at (pick test (revise s i c) s).column i ≡ pick test c (entry_at s.column i)
  revised_here true h = set_here s.column i c h
  revised_here false h = refl

  revised_elsewhere : (test : Bool) (j : ℕ) → j ≢ i → entry_at (pick test (revise s i c) s).column j ≡ entry_at s.column j
  revised_elsewhere true j other = set_elsewhere s.column i c j other
  revised_elsewhere false j other = refl

-- at the start only the destination's cost is known
pub start_long : (d : ℕ) → length (start_column d) ≡ most_nodes
unfolding start_column
start_long d = length-set (replicate most_nodes no_cost) d here_cost ∙ length-replicate most_nodes no_cost

pub start_here : (d : ℕ) → d < most_nodes → entry_at (start_column d) d ≡ here_cost
unfolding start_column
start_here d h = set_here (replicate most_nodes no_cost) d here_cost (omega (arith, length-replicate most_nodes no_cost))

pub start_elsewhere : (d i : ℕ) → i ≢ d → entry_at (start_column d) i ≡ no_cost
unfolding start_column entry_at
start_elsewhere d i other = set_elsewhere (replicate most_nodes no_cost) d here_cost i other ∙ repeated most_nodes i
  where
    repeated : (m i : ℕ) → get_or (replicate m no_cost) i no_cost ≡ no_cost
    repeated zero i = refl
    repeated (suc m) zero = refl
    repeated (suc m) (suc i) = repeated m i

-- one offer
pub offer_kept : (f k x y weight : ℕ) (s : Revised) → Kept s (offer f k x y weight s)
unfolding offer
offer_kept f k x y weight s =
    let way = extended (entry_at s.column y) weight k f in
    revised_kept s x way (before way (entry_at s.column x))

-- interface f of link k, from x to y, makes its offer in the column
pub column_offered : (N : Network) (f k x y : ℕ) → link f ≡ k → tail N f ≡ x → head N f ≡ y → (s : Revised) → x < length s.column
    → Offered N f (entry_at s.column) (entry_at (offer f k x y (N.weight k) s).column)
unfolding offer
column_offered N f k x y is_link is_tail is_head s place =
    let way = extended (entry_at s.column y) (N.weight k) k f in
    let test = before way (entry_at s.column x) in
    record {
      stored = rw (is_tail, is_head, is_link) (revised_here s x way test place);
      others = λ i other. revised_elsewhere s x way test i (λ e. other (e ∙ sym is_tail));
    }

-- the offers of a round
pub offers_kept : (k x y weight : ℕ) (s : Revised) → Kept s (link_offers k x y weight s)
unfolding link_offers
offers_kept k x y weight s = kept_twice (offer_kept (2 * k) k x y weight s) (offer_kept (2 * k + 1) k y x weight _)

picked_kept : (test : Bool) {s t : Revised} → Kept s t → Kept s (pick test t s)
picked_kept true k = k
picked_kept false {s} k = kept_same s

module _ (low high weight : List ℕ) (offering : LinkSet) (upward : Bool) where
  round_from_kept : (left j : ℕ) (s : Revised) → Kept s (round_from left low high weight offering upward j s)
  unfolding round_from
  round_from_kept zero j s = kept_same s
  round_from_kept (suc left) j s =
      let k = turn_of (length low) upward j in
      kept_twice (picked_kept (has_link offering k) (offers_kept k (get_or low k 0) (get_or high k 0) (get_or weight k 0) s))
      (round_from_kept left (suc j) _)

  pub round_kept : (column : List Cost) → Kept (unrevised column) (round_of low high weight offering upward column)
  unfolding round_of
  round_kept column = round_from_kept (length low) 0 (unrevised column)

-- each turn is that of a link
pub turn_below : (links : ℕ) (upward : Bool) (j : ℕ) → j < links → turn_of links upward j < links
unfolding turn_of
turn_below links true j h = h
turn_below links false j h = omega arith

-- rounds keep a column as long as it was
module _ (R : Rows) (offering : LinkSet) where
  rounds_long : (left : ℕ) (upward : Bool) (column : List Cost) → length (rounds_from left R offering upward column) ≡ length column
  unfolding rounds_from
  rounds_long zero upward column = refl
  rounds_long (suc left) upward column =
      let one = round_of R.low R.high R.weight offering upward column in
      let long = (round_kept R.low R.high R.weight offering upward column).long in
      whichever one.changed _ _ (rounds_long left (not upward) one.column ∙ long) long
    where
      whichever : (test : Bool) (a b : List Cost) → length a ≡ length column → length b ≡ length column
          → length (pick test a b) ≡ length column
      whichever true a b one other = one
      whichever false a b one other = other

pub settled_long : (R : Rows) (out : LinkSet) (given : List Cost) → length (settled R out given) ≡ length given
unfolding settled
settled_long R out given = rounds_long R (offering_links R.low R.high out given) (R.nodes - 1) true given

-- link k added to a set, or not
module _ (links : LinkSet) (k : ℕ) where
  added_here : (test : Bool) → Without links k → has_link (pick test (with_link links k) links) k ≡ test
  added_here true lacks = eq-true_of_not-eq-false (λ e. ((without_with links k k).0 e).1 refl)
  added_here false lacks = lacks

  added_elsewhere : (test : Bool) (l : ℕ) → l ≢ k → has_link (pick test (with_link links k) links) l ≡ has_link links l
  added_elsewhere true l other =
      elim (without? links l) [
        | yes lacks ↦ (without_with links k l).1 (lacks, other) ∙ sym lacks
        | no has ↦ eq-true_of_not-eq-false (λ e. has ((without_with links k l).0 e).0) ∙ sym (eq-true_of_not-eq-false has)
      ]
  added_elsewhere false l other = refl

-- the links that make offers in rounds that begin with the column `given`
module _ (low high : List ℕ) (out : LinkSet) (given : List Cost) where
  abbrev offers : ℕ → Bool
  offers k = makes_offers out k (entry_at given (get_or low k 0)) (entry_at given (get_or high k 0))

  -- those passed stay as they are
  offering_from_passed : (left k : ℕ) (links : LinkSet) (l : ℕ) → l < k
      → has_link (offering_from left low high out given k links) l ≡ has_link links l
  unfolding offering_from
  offering_from_passed zero k links l passed = refl
  offering_from_passed (suc left) k links l passed =
      offering_from_passed left (suc k) _ l (omega arith) ∙ added_elsewhere links k (offers k) l (omega arith)

  offering_from_at : (left k : ℕ) (links : LinkSet) (l : ℕ) → k ≤ l → l < k + left → Without links l
      → has_link (offering_from left low high out given k links) l ≡ offers l
  unfolding offering_from
  offering_from_at zero k links l from until lacks = absurd (omega arith)
  offering_from_at (suc left) k links l from until lacks =
      elim (ℕ_discrete l k) [
        | yes e ↦ rw e (offering_from_passed left (suc k) _ k (omega arith) ∙ added_here links k (offers k) (rw e at lacks))
        | no other ↦
            offering_from_at left (suc k) _ l (omega arith) (omega arith) (added_elsewhere links k (offers k) l other ∙ lacks)
      ]

  pub offering_has : (k : ℕ) → k < length low → has_link (offering_links low high out given) k ≡ offers k
  unfolding offering_links
  offering_has k below = offering_from_at (length low) 0 _ k (omega arith) (omega arith) (without_none k)

-- the costs that use a link of the set, taken out
module _ (out : LinkSet) where
  abbrev pub unless_meeting : Cost → Cost
  unless_meeting c = pick (meeting c.links out) no_cost c

  blank_from_kept : (left i : ℕ) (s : Revised) → Kept s (blank_from left out i s)
  unfolding blank_from
  blank_from_kept zero i s = kept_same s
  blank_from_kept (suc left) i s =
      kept_twice (revised_kept s i no_cost (meeting (entry_at s.column i).links out)) (blank_from_kept left (suc i) _)

  -- the places passed, and those beyond, stay
  blank_from_outside : (left i : ℕ) (s : Revised) (j : ℕ) → (j < i) ⊎ (i + left ≤ j)
      → entry_at (blank_from left out i s).column j ≡ entry_at s.column j
  unfolding blank_from
  blank_from_outside zero i s j away = refl
  blank_from_outside (suc left) i s j (inl passed) =
      blank_from_outside left (suc i) _ j (inl (omega arith))
      ∙ revised_elsewhere s i no_cost (meeting (entry_at s.column i).links out) j (omega arith)
  blank_from_outside (suc left) i s j (inr beyond) =
      blank_from_outside left (suc i) _ j (inr (omega arith))
      ∙ revised_elsewhere s i no_cost (meeting (entry_at s.column i).links out) j (omega arith)

  blank_from_at : (left i : ℕ) (s : Revised) → i + left ≤ length s.column → (j : ℕ) → i ≤ j → j < i + left
      → entry_at (blank_from left out i s).column j ≡ unless_meeting (entry_at s.column j)
  unfolding blank_from
  blank_from_at zero i s long j from until = absurd (omega arith)
  blank_from_at (suc left) i s long j from until =
      let test = meeting (entry_at s.column i).links out in
      elim (ℕ_discrete j i) [
        | yes e ↦ rw e (blank_from_outside left (suc i) _ i (inl (omega arith)) ∙ revised_here s i no_cost test (omega arith))
        | no other ↦
            blank_from_at left (suc i) _ (omega (arith, (revised_kept s i no_cost test).long)) j (omega arith) (omega arith)
            ∙ ap unless_meeting (revised_elsewhere s i no_cost test j other)
      ]

  module _ (n : ℕ) (column : List Cost) where
    pub blanked_kept : Kept (unrevised column) (blanked n out column)
    unfolding blanked
    blanked_kept = blank_from_kept n 0 (unrevised column)

    pub blanked_at : n ≤ length column → (i : ℕ) → i < n → entry_at (blanked n out column).column i ≡ unless_meeting (entry_at column i)
    unfolding blanked
    blanked_at long i h = blank_from_at n 0 (unrevised column) (omega arith) i (omega arith) (omega arith)

    pub blanked_beyond : (i : ℕ) → n ≤ i → entry_at (blanked n out column).column i ≡ entry_at column i
    unfolding blanked
    blanked_beyond i h = blank_from_outside n 0 (unrevised column) i (inr (omega arith))
