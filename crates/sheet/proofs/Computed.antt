-- The entries and the key links by computation: definitions that run, each proved to be what the papers define, of any accepted network.
-- The columns of costs are those of the rounds, so each entry is the cost of the best path over the links left in. The first interface
-- of that path is the entry; each link tried adds to what is kept, the key links and the dearest of the detours that avoid one of them;
-- and a backwarding entry is worked out without the key links.
use Prim.Native.Nat.{ℕ, zero, suc, ◌≤◌, ◌<◌}
use mathlib.Core.Bool.{Bool, true, false}
use mathlib.Core.Path.{◌≡◌, refl, ◌∙◌}
use mathlib.Core.Logic.{◌≢◌}
use mathlib.Core.List.{List}
use native.Mathlib.Decide.{ℕ_discrete}
use native.Mathlib.Omega.{arith}
use borrow.Author.Tests.{ne_eqb, eq-eqb}
use lib.Dec.{eqb}
use lib.ListN.{length, get_or}
use Rattle.graph.specs.Network.{Network, WellFormed, link, tail, head}
use Rattle.graph.specs.Path.{All, But}
use Rattle.graph.specs.Set.{SetOf}
use Rattle.graph.specs.Entries.{Hop, here, onward, nowhere, Entry, at_destination}
use Rattle.graph.specs.Entries.{KeyLink, RoutingEntry, ForwardingEntry, BackwardingEntry}
use Rattle.graph.specs.Walk.{Tables}
use Rattle.graph.specs.Demand3.{BuiltEntries}
use Rattle.graph.proofs.Interfaces.{head_node, tail_node}
use Rattle.net.specs.Choice.{pick}
use Rattle.net.specs.Check.{Accepted}
use Rattle.net.specs.Rows.{Rows, Present, network_of}
use Rattle.net.proofs.Rows.{row_present}
use Rattle.net.proofs.Accepted.{well_formed}
use Rattle.net.specs.inner.LinkSet.{value, no_links, with_link, Without}
use Rattle.net.specs.declared.link_set.LinkSet.{LinkSet}
use Rattle.paths.specs.inner.Cost.{is_known}
use Rattle.paths.specs.inner.Column.{entry_at, Shows, BestColumn}
use Rattle.paths.specs.inner.Rounds.{start_column, settled, blanked}
use Rattle.paths.specs.declared.cost.Cost.{Cost}
use Rattle.paths.proofs.Columns.{start_long, settled_long}
use Rattle.paths.proofs.BestColumn.{start_best, restarted_settled}
use Rattle.paths.proofs.ColumnEntry.{known_true, known_false, Tells, leads, leads_nowhere, shown_tells}
use Rattle.paths.proofs.ColumnEntry.{shows_same, column_but, restarted_from_all}
use Rattle.tables.specs.inner.KeyTest.{crosses_link}
use Rattle.tables.specs.inner.Detours.{noted, nothing_kept, keys_for, forward_cost, Keeps}
use Rattle.tables.specs.declared.kept.Kept.{Kept}
use Rattle.tables.proofs.KeyTest.{crossed_apart}
use Rattle.tables.proofs.Detours.{nothing_keeps, noted_keeps, passed_keeps}
use Rattle.tables.proofs.KeptKeys.{kept_keys}
use Rattle.tables.proofs.Leaving.{aside_links}
use Rattle.tables.proofs.Forwarding.{forward_tells}

-- the entry of i for d that a cost tells
unfoldable pub told : ℕ → ℕ → Cost → Hop
told i d c = pick (eqb i d) here (pick (is_known c) (onward c.first) nowhere)

module _ (R : Rows) where
  -- the costs for one destination over all links, and without some of them
  abbrev pub column_all : ℕ → List Cost
  column_all d = settled R no_links (start_column d)

  abbrev pub column_without : LinkSet → ℕ → List Cost
  column_without out d = settled R out (blanked R.nodes out (column_all d)).column

  unfoldable pub cost_all : ℕ → ℕ → Cost
  cost_all i d = entry_at (column_all d) i

  unfoldable pub cost_but : ℕ → ℕ → ℕ → Cost
  cost_but k i d = entry_at (column_without (with_link no_links k) d) i

  unfoldable pub routed : ℕ → ℕ → Hop
  routed d i = told i d (cost_all i d)

  -- what is kept for i of the links below a number
  unfoldable pub kept_below : ℕ → ℕ → ℕ → Kept
  kept_below i d zero = nothing_kept
  kept_below i d (suc k) =
      pick (crosses_link (cost_all i d) k)
      (noted (kept_below i d k) k (cost_all i d) (cost_but k i d) (cost_but k (head (network_of R) (cost_all i d).first) d)
      (cost_but k (get_or R.low k 0) d) (cost_but k (get_or R.high k 0) d))
      (kept_below i d k)

  -- the key links of interface h
  unfoldable pub keys_of : ℕ → ℕ → LinkSet
  keys_of d h = keys_for h (cost_all (head (network_of R) h) d) (kept_below (head (network_of R) h) d (length R.low))

  unfoldable pub backwarded : ℕ → ℕ → Hop
  backwarded d h =
      told (tail (network_of R) h) d (entry_at (column_without (with_link (keys_of d h) (link h)) d) (tail (network_of R) h))

  unfoldable pub forwarded : ℕ → ℕ → Hop
  forwarded d h =
      told (head (network_of R) h) d
      (forward_cost h (cost_all (head (network_of R) h) d) (kept_below (head (network_of R) h) d (length R.low)))

  -- all entries for one destination
  unfoldable pub computed : ℕ → Tables
  computed d = record { routing = routed d; forwarding = forwarded d; backwarding = backwarded d }

module _ (N : Network) {X : ℕ → Type 0} {i d : ℕ} (c : Cost) where
  told_here : i ≡ d → Entry N X i d (told i d c)
  unfolding told
  told_here e = rw (eq-eqb i d e) (at_destination e)

  told_away : i ≢ d → Tells N X i d c → Entry N X i d (told i d c)
  unfolding told
  told_away away (leads h entry) = rw (ne_eqb i d away, (known_true c).1 h) entry
  told_away away (leads_nowhere h entry) = rw (ne_eqb i d away, (known_false c).1 h) entry

  told_shown : WellFormed N → Shows N X i d c → Entry N X i d (told i d c)
  told_shown W shown = elim (ℕ_discrete i d) [ yes e ↦ told_here e | no away ↦ told_away away (shown_tells N W shown away) ]

module _ (R : Rows) (A : Accepted R) where
  abbrev N : Network
  N = network_of R

  W : WellFormed N
  W = well_formed R A

  module _ (d : ℕ) (destination : d < R.nodes) where
    -- the columns are best
    all_best : BestColumn N All d (column_all R d)
    all_best = start_best A destination

    without_best : (out : LinkSet) → BestColumn N (Without out) d (column_without R out d)
    without_best out =
        let long = settled_long R no_links (start_column d) ∙ start_long d in
        restarted_from_all N W out (restarted_settled A out (column_all R d) long) destination all_best

    but_best : (k : ℕ) → BestColumn N (But k) d (column_without R (with_link no_links k) d)
    but_best k = column_but N W (without_best (with_link no_links k))

    shown_all : {i : ℕ} → i < R.nodes → Shows N All i d (cost_all R i d)
    unfolding cost_all
    shown_all {i} node = all_best.shows i node

    pub routed_entry : (i : ℕ) → i < R.nodes → RoutingEntry N d i (routed R d i)
    unfolding routed
    routed_entry i node = told_shown N _ W (shown_all node)

    -- one link more was tried
    kept_more : {i : ℕ} → i < R.nodes → (k : ℕ) → k < length R.low → (kept : Kept) → Keeps N i d k (cost_all R i d) kept
        → (b : Bool) → crosses_link (cost_all R i d) k ≡ b
        → Keeps N i d (suc k) (cost_all R i d)
        (pick b
        (noted kept k (cost_all R i d) (cost_but R k i d) (cost_but R k (head N (cost_all R i d).first) d)
        (cost_but R k (get_or R.low k 0) d) (cost_but R k (get_or R.high k 0) d))
        kept)
    unfolding cost_all cost_but
    kept_more {i} node k number kept old true crosses =
        noted_keeps R W (row_present R k number) (column_all R d) (column_without R (with_link no_links k) d) all_best (but_best k) i node
        (crossed_apart N W (all_best.shows i node) k crosses) kept old
    kept_more {i} node k number kept old false crosses =
        passed_keeps R W (row_present R k number) (column_all R d) (column_without R (with_link no_links k) d) all_best (but_best k) i node
        kept crosses old

    -- the links below k were tried
    kept_keeps : {i : ℕ} → i < R.nodes → (k : ℕ) → k ≤ length R.low → Keeps N i d k (cost_all R i d) (kept_below R i d k)
    unfolding kept_below
    kept_keeps node zero within = nothing_keeps
    kept_keeps {i} node (suc k) within =
        kept_more node k (omega arith) (kept_below R i d k) (kept_keeps node k (omega arith)) (crosses_link (cost_all R i d) k) refl

    module _ (h : ℕ) (up : Present R (link h)) where
      -- all links were
      kept_all : Keeps N (head N h) d (length R.low) (cost_all R (head N h) d) (kept_below R (head N h) d (length R.low))
      kept_all = kept_keeps (head_node N W h up) (length R.low) (omega arith)

      pub keys_are : SetOf (length R.low) (KeyLink N d h) (value (keys_of R d h))
      unfolding keys_of
      keys_are = kept_keys N W h _ _ (shown_all (head_node N W h up)) kept_all

      pub backwarded_entry : BackwardingEntry N d h (backwarded R d h)
      unfolding backwarded
      backwarded_entry =
          let out = with_link (keys_of R d h) (link h) in
          told_shown N _ W (shows_same N W (aside_links N W h (keys_of R d h) keys_are) ((without_best out).shows (tail N h) (tail_node N W h up)))

    pub forwarded_entry : (h : ℕ) → Present R (link h) → ForwardingEntry N d h (forwarded R d h)
    unfolding forwarded
    forwarded_entry h up =
        let node = head_node N W h up in
        elim (ℕ_discrete (head N h) d) [
          | yes e ↦ told_here N _ e
          | no away ↦ told_away N _ away
              (forward_tells N W h away _ _ (shown_all node) (kept_all h up))
        ]

    -- so the computed tables are built
    pub computed_built : BuiltEntries N d (computed R d)
    unfolding computed
    computed_built = record { routing = routed_entry; forwarding = forwarded_entry; backwarding = backwarded_entry }
