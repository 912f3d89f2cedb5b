-- The rounds leave the best column. They begin with a column in which whatever is known is final, and the destination is known. In a
-- round each link makes the two offers of its interfaces, unless it is taken out, or both of its ends were known at the beginning: then
-- no offer of it could win. Upward or downward, each link has one turn. So each round is a round of the mathematics. After one that
-- changes nothing, or after as many rounds as there are nodes, less one, the column is finished: an entry is the cost of the best path,
-- and the interface kept with it is that path's first.
use Prim.Native.Nat.{ℕ, zero, suc, ◌+◌, ◌*◌, ◌-◌, ◌^◌, ◌≤◌, ◌<◌}
use mathlib.Core.Bool.{Bool, true, false, not}
use mathlib.Core.Path.{◌≡◌, refl, sym, ap, ◌∙◌}
use mathlib.Core.Logic.{◌⊎◌, inl, inr}
use mathlib.Core.List.{List, ◌∷◌}
use mathlib.Core.Option.{some}
use native.Mathlib.Nat.{zero-add}
use native.Mathlib.Decide.{ℕ_discrete}
use native.Mathlib.Omega.{arith}
use lib.ListN.{length}
use Rattle.graph.specs.Network.{Network, WellFormed, link, reverse, tail}
use Rattle.graph.specs.Path.{Chain, stop, step, BestPath}
use Rattle.graph.proofs.Interfaces.{interface_ends, tail_node, reverse_from_low, link_from_low, link_from_high}
use Rattle.graph.proofs.Interfaces.{tail_from_low, head_from_low, tail_from_high, head_from_high}
use Rattle.graph.proofs.Chain.{cost}
use Rattle.graph.proofs.Order.{links_once}
use Rattle.graph.proofs.Agreement.{best_path}
use Rattle.graph.proofs.Rounds.{Falls, Round, Passed, Usable, Offer, Readable, Complete, Finished}
use Rattle.graph.proofs.Rounds.{falls_same, falls_twice, readable_new}
use Rattle.graph.proofs.Rounds.{round_start, round_covers, round_link, round_skip, round_whole, complete_round}
use Rattle.graph.proofs.Rounds.{finished_when_still, finished_after_rounds}
use Rattle.graph.proofs.Finished.{finished_none, finished_here, finished_cost, first_kept}
use Rattle.graph.proofs.Restart.{AllFinal, round_final}
use Rattle.net.specs.Limits.{most_nodes}
use Rattle.net.specs.Rows.{Rows, network_of}
use Rattle.net.specs.Choice.{pick}
use Rattle.net.specs.Check.{Accepted}
use Rattle.net.specs.inner.LinkSet.{value, has_link, Without}
use Rattle.net.specs.declared.link_set.LinkSet.{LinkSet}
use Rattle.net.proofs.Rows.{present_row, row_present}
use Rattle.net.proofs.Accepted.{well_formed}
use Rattle.net.proofs.LinkSets.{not_both}
use Rattle.paths.specs.inner.Cost.{unknown, no_cost, is_known}
use Rattle.paths.specs.inner.Column.{entry_at, Shows, here, found, Shows.none as no_path, BestColumn}
use Rattle.paths.specs.inner.Rounds.{unrevised, offer, link_offers, makes_offers, offering_links, turn_of, round_from, round_of}
use Rattle.paths.specs.inner.Rounds.{rounds_from, settled}
use Rattle.paths.specs.declared.cost.Cost.{Cost}
use Rattle.paths.specs.inner.Rounds.{Revised}
use Rattle.paths.proofs.CostNumber.{Limited, number, entry, Fits, blank, known, entry_known, entry_blank}
use Rattle.paths.proofs.CostNumber.{pair_of_chain, pair_of_nothing}
use Rattle.paths.proofs.ColumnEntry.{known_true}
use Rattle.paths.proofs.Offers.{entries, firsts, Holds, Offered, offered}
use Rattle.paths.proofs.Columns.{offer_kept, column_offered, offers_kept, round_kept, turn_below, offering_has}

-- A column with which rounds may begin: what is known in it is final, and the destination is known.
pub record Begun (N : Network) (X : ℕ → Type 0) (d : ℕ) (G : ℕ → Cost) : Type 0 where
  pub holds : Holds N X d G
  pub final : AllFinal N X d (entries N G)
  pub complete : Complete N X d 0 (entries N G)

-- A round that began with the column C₀ has come to C, and the links of P have had their turn: the mathematics' round, of costs that
-- hold.
record Underway (N : Network) (X : ℕ → Type 0) (d : ℕ) (P : ℕ → Type 0) (C₀ C : ℕ → Cost) : Type 0 where
  holds : Holds N X d C
  round : Round N X d (Passed N X P) (entries N C₀) (entries N C)

-- a chain to a node begins at one
pub chain_start : (N : Network) → WellFormed N → {i d : ℕ} {p : List ℕ} → d < N.nodes → Chain N i p d → i < N.nodes
chain_start N W node (stop e) = rw e node
chain_start N W node (step {f = f} present e c) = rw e at (tail_node N W f present)

module _ (N : Network) (W : WellFormed N) (X : ℕ → Type 0) (d : ℕ) where
  -- a link makes its two offers, from its low end and from its high end
  link_offered : Limited N → (P P' : ℕ → Type 0) (k : ℕ) → ((l : ℕ) → P' l → P l ⊎ (l ≡ k)) → N.Present k → X k
      → (C₀ C C₁ C₂ : ℕ → Cost) → Offered N (2 * k) C C₁ → Offered N (2 * k + 1) C₁ C₂
      → Underway N X d P C₀ C → Underway N X d P' C₀ C₂
  link_offered L P P' k next present within C₀ C C₁ C₂ low high u =
      let a = offered N W L X d (2 * k) (rw link_from_low present) (rw link_from_low within) C C₁ u.holds low in
      let b = offered N W L X d (2 * k + 1) (rw link_from_high present) (rw link_from_high within) C₁ C₂ a.holds high in
      let back : Offer N X (reverse (2 * k)) (entries N C₁) (entries N C₁) (entries N C₂) = rw reverse_from_low b.offer in
      let read : Readable N X d (entries N C₀) (entries N C₁) (entries N C₁) =
      record { sound = a.holds.sound; since = falls_twice u.round.falls a.offer.falls; until = falls_same (λ i. refl) } in
      record {
        holds = b.holds;
        round = round_link N X d P P' k next (link_from_low k) u.round (readable_new N X d u.round) a.offer read back;
      }

  -- what a finished column of costs shows
  finished_shows : (C : ℕ → Cost) → Holds N X d C → Finished N X d (entries N C) → (i : ℕ) → Shows N X i d (C i)
  finished_shows C h t i =
      elim (h.fits i) [
        | blank e ↦ no_path (λ p s o. finished_none N X d (entries N C) t i (ap (entry N) e ∙ entry_blank N) p s.chain o) e
        | known s l ↦ shown s l
      ]
    where
      shown : (C i).sum < unknown → value (C i).links < 2 ^ N.links → Shows N X i d (C i)
      shown s l =
          let is : entry N (C i) ≡ some (number N (C i)) = entry_known N (C i) s in
          elim (ℕ_discrete i d) [
            | yes e ↦
                let nothing : number N (C i) ≡ 0 = cc (is, ap (λ x. entry N (C x)) e, finished_here N X d (entries N C) t) in
                let pair = pair_of_nothing N (C i) l nothing in
                here e pair.0 pair.1
            | no away ↦
                let kept = first_kept N X d (entries N C) t (firsts C) h.led i (number N (C i)) away is in
                let best : BestPath N X i ((C i).first ∷ kept.0) d = best_path N W kept.1 in
                let costs : number N (C i) ≡ cost N ((C i).first ∷ kept.0) = cc (is, finished_cost N X d (entries N C) t kept.1) in
                let pair = pair_of_chain N (C i) ((C i).first ∷ kept.0) l (links_once N W best.path) costs in
                found best pair.0 pair.1 refl s
          ]

  -- and beyond the nodes it has no cost, as no path begins there
  pub finished_best_column : d < N.nodes → (column : List Cost) → Holds N X d (entry_at column)
      → Finished N X d (entries N (entry_at column)) → BestColumn N X d column
  finished_best_column node column h t =
      record { shows = λ i below. finished_shows (entry_at column) h t i; beyond = λ i past. nothing i past (h.fits i) }
    where
      nothing : (i : ℕ) → N.nodes ≤ i → Fits N (entry_at column i) → entry_at column i ≡ no_cost
      nothing i past (blank e) = e
      nothing i past (known s l) =
          let way = h.sound i _ (entry_known N (entry_at column i) s) in
          absurd (omega (arith, chain_start N W node way.chain))

-- what link k does on its turn: it makes its offers, or it is out, or both of its ends were known when the rounds began
data OnTurn (out : LinkSet) (k : ℕ) (one other : Cost) : Type 0 where
  offers : makes_offers out k one other ≡ true → Without out k → OnTurn out k one other
  is_out : makes_offers out k one other ≡ false → has_link out k ≡ true → OnTurn out k one other
  is_final : makes_offers out k one other ≡ false → is_known one ≡ true → is_known other ≡ true → OnTurn out k one other

on_turn : (out : LinkSet) (k : ℕ) (one other : Cost) → OnTurn out k one other
unfolding makes_offers
on_turn out k one other = go (has_link out k) (is_known one) (is_known other) refl refl refl
  where
    go : (o a b : Bool) → has_link out k ≡ o → is_known one ≡ a → is_known other ≡ b → OnTurn out k one other
    go true a b p q r = is_out (rw p refl) p
    go false true true p q r = is_final (rw (p, q, r) refl) q r
    go false true false p q r = offers (rw (p, q, r) refl) p
    go false false b p q r = offers (rw (p, q) refl) p

-- Upward a link's turn is its own number, downward its number from the end: either way the link of that turn is the link itself.
turn_twice : (links : ℕ) (upward : Bool) (l : ℕ) → l < links → turn_of links upward (turn_of links upward l) ≡ l
unfolding turn_of
turn_twice links true l h = refl
turn_twice links false l h = omega arith

-- the links that have had their turn in a round
module _ (links : ℕ) (upward : Bool) where
  -- link l has one of the first j turns
  record Turned (j l : ℕ) : Type 0 where
    place : ℕ
    passed : place < j
    is : l ≡ turn_of links upward place

  turned_more : (j l : ℕ) → Turned (suc j) l → Turned j l ⊎ (l ≡ turn_of links upward j)
  turned_more j l t =
      elim (ℕ_discrete t.place j) [
        | yes e ↦ inr (t.is ∙ ap (turn_of links upward) e)
        | no other ↦ inl (record { place = t.place; passed = omega (arith, t.passed); is = t.is })
      ]

  -- after as many turns as there are links, all of them
  turned_all : (l : ℕ) → l < links → Turned links l
  turned_all l h =
      record { place = turn_of links upward l; passed = turn_below links upward l h; is = sym (turn_twice links upward l h) }

module _ (R : Rows) (A : Accepted R) where
  open R use {nodes as n, low, high, weight}

  abbrev N : Network
  N = network_of R

  W : WellFormed N
  W = well_formed R A

  L : Limited N
  L = record { few_links = A.few_links; light = λ k h. (A.joins k (present_row R k h)).light }

  -- the rounds over the links left in that begin with the column `given`
  module _ (out : LinkSet) where
    abbrev X : ℕ → Type 0
    X = Without out

    module _ (d : ℕ) (given : List Cost) (begun : Begun N X d (entry_at given)) where
      -- the links that make offers, in every round the same
      abbrev offering : LinkSet
      offering = offering_links low high out given

      -- after r rounds or more
      record After (r : ℕ) (column : List Cost) : Type 0 where
        long : length column ≡ most_nodes
        holds : Holds N X d (entry_at column)
        falls : Falls (entries N (entry_at given)) (entries N (entry_at column))
        complete : Complete N X d r (entries N (entry_at column))

      -- a round that began with the column `before` has come to s, and the links of P have had their turn
      record Stage (before : List Cost) (P : ℕ → Type 0) (s : Revised) : Type 0 where
        long : length s.column ≡ most_nodes
        underway : Underway N X d P (entry_at before) (entry_at s.column)

      module _ (r : ℕ) (before : List Cost) (after : After r before) where
        -- the turn of link k
        module _ (P P' : ℕ → Type 0) (k : ℕ) (next : (l : ℕ) → P' l → P l ⊎ (l ≡ k)) (present : k < length low) where
          stage_offers : Without out k → (s : Revised) → Stage before P s
              → Stage before P' (link_offers k (N.low k) (N.high k) (N.weight k) s)
          unfolding link_offers
          stage_offers left_in s stage =
              let first : Revised = offer (2 * k) k (N.low k) (N.high k) (N.weight k) s in
              let first_long = (offer_kept (2 * k) k (N.low k) (N.high k) (N.weight k) s).long ∙ stage.long in
              record {
                long = (offers_kept k (N.low k) (N.high k) (N.weight k) s).long ∙ stage.long;
                underway = link_offered N W X d L P P' k next (row_present R k present) left_in (entry_at before) (entry_at s.column)
                    (entry_at first.column) _
                    (column_offered N (2 * k) k (N.low k) (N.high k) (link_from_low k) (tail_from_low k N) (head_from_low k N) s
                    (omega (arith, A.joins k present, A.few_nodes, stage.long)))
                    (column_offered N (2 * k + 1) k (N.high k) (N.low k) (link_from_high k) (tail_from_high k N) (head_from_high k N)
                    first (omega (arith, A.joins k present, A.few_nodes, first_long)))
                    stage.underway;
              }

          -- a link that makes no offers leaves the column
          stage_passed : {s : Revised} → Stage before P s
              → (Round N X d (Passed N X P) (entries N (entry_at before)) (entries N (entry_at s.column))
              → Round N X d (Passed N X P') (entries N (entry_at before)) (entries N (entry_at s.column)))
              → Stage before P' s
          stage_passed stage passed =
              record { long = stage.long; underway = record { holds = stage.underway.holds; round = passed stage.underway.round } }

          stage_link : (s : Revised) → Stage before P s
              → Stage before P' (pick (has_link offering k) (link_offers k (N.low k) (N.high k) (N.weight k) s) s)
          stage_link s stage =
              let asked = offering_has low high out given k present in
              elim (on_turn out k (entry_at given (N.low k)) (entry_at given (N.high k))) [
                | offers e left_in ↦ rw (asked ∙ e) (stage_offers left_in s stage)
                | is_out e taken ↦
                    rw (asked ∙ e) (stage_passed stage (round_skip N X d P P' k next (λ there left_in. not_both out k taken left_in)))
                | is_final e one other ↦
                    rw (asked ∙ e)
                    (stage_passed stage
                    (round_final N X d P P' k next begun.final after.falls after.holds.sound (ends one other)))
              ]
            where
              ends : is_known (entry_at given (N.low k)) ≡ true → is_known (entry_at given (N.high k)) ≡ true
                  → (g : ℕ) → link g ≡ k → (c : ℕ) × (entry N (entry_at given (tail N g)) ≡ some c)
              ends one other g e =
                  elim (interface_ends N g) [
                    | inl (at, to) ↦ (number N (entry_at given (N.low k)), rw (at, e) (entry_known N _ ((known_true _).0 one)))
                    | inr (at, to) ↦ (number N (entry_at given (N.high k)), rw (at, e) (entry_known N _ ((known_true _).0 other)))
                  ]

        -- the whole round, upward or downward
        module _ (upward : Bool) where
          abbrev turned : ℕ → ℕ → Type 0
          turned = Turned (length low) upward

          abbrev done : Revised
          done = round_of low high weight offering upward before

          stage_round : (left j : ℕ) → j + left ≡ length low → (s : Revised) → Stage before (turned j) s
              → Stage before (turned (length low)) (round_from left low high weight offering upward j s)
          unfolding round_from
          stage_round zero j e s stage = let all : j ≡ length low = omega arith in rw all at stage
          stage_round (suc left) j e s stage =
              let k = turn_of (length low) upward j in
              stage_round left (suc j) (omega arith) _
              (stage_link (turned j) (turned (suc j)) k (turned_more (length low) upward j)
              (turn_below (length low) upward j (omega arith)) s stage)

          round_done : Stage before (turned (length low)) done
          unfolding round_of
          round_done =
              let none_passed : Round N X d (Passed N X (turned 0)) (entries N (entry_at before)) (entries N (entry_at before)) =
              round_covers N X d (λ g t. omega (arith, t.0.passed)) (round_start N X d after.holds.sound) in
              stage_round (length low) 0 (zero-add (length low)) (unrevised before)
              (record { long = after.long; underway = record { holds = after.holds; round = none_passed } })

          whole_round : Round N X d (Usable N X) (entries N (entry_at before)) (entries N (entry_at done.column))
          whole_round = round_whole N X d (turned (length low)) W (turned_all (length low) upward) round_done.underway.round

          after_round : After (suc r) done.column
          after_round =
              record {
                long = round_done.long;
                holds = round_done.underway.holds;
                falls = falls_twice after.falls whole_round.falls;
                complete = complete_round N X d whole_round after.complete;
              }

          -- a round that changes nothing is the last
          still_finished : done.changed ≡ false → Finished N X d (entries N (entry_at done.column))
          still_finished e =
              let same = (round_kept low high weight offering upward before).still e in
              finished_when_still N X d whole_round
              (λ i. ap (λ (s : Revised). entry N (entry_at s.column i)) same)
              (λ i p c o h. after.complete i p c o (omega arith))

      -- a column that is finished, and all holds of it
      record Ended (column : List Cost) : Type 0 where
        holds : Holds N X d (entry_at column)
        finished : Finished N X d (entries N (entry_at column))

      rounds_end : (left r : ℕ) → n ≤ suc (left + r) → (upward : Bool) (column : List Cost) → After r column
          → Ended (rounds_from left R offering upward column)
      unfolding rounds_from
      rounds_end zero r enough upward column a =
          record {
            holds = a.holds;
            finished = finished_after_rounds N X d W r (omega arith) a.holds.sound a.complete;
          }
      rounds_end (suc left) r enough upward column a =
          let next = after_round r column a upward in
          whichever (round_of low high weight offering upward column).changed (rounds_end left (suc r) (omega arith) (not upward) _ next)
          (λ still. record { holds = next.holds; finished = still_finished r column a upward still })
        where
          whichever : (test : Bool) {one other : List Cost} → Ended one → (test ≡ false → Ended other) → Ended (pick test one other)
          whichever true one other = one
          whichever false one other = other refl

      pub begun_settled : d < n → length given ≡ most_nodes → BestColumn N X d (settled R out given)
      unfolding settled
      begun_settled node long =
          let start : After 0 given =
          record { long = long; holds = begun.holds; falls = falls_same (λ i. refl); complete = begun.complete } in
          let end = rounds_end (n - 1) 0 (omega arith) true given start in
          finished_best_column N W X d node _ end.holds end.finished
